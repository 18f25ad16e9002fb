-- A plant on which the kernel takes over that was resurrected.
use Rattle.std.proofs.Common.{◌≡◌, ℕ, zero, suc, ◌+◌, ◌*◌, ◌<◌, ◌≤◌, ◌==◌, false, true, List, [], ◌∷◌, length, Option, Some, None, IfSome, is_some, refl, sym, ap, subst, ◌∙◌, arith}
use Rattle.std.proofs.lemmas.Bool.Decides.{nat_tests}
use Rattle.ow_base.specs.Images.{Image}
use Rattle.ow_base.specs.Screen.{Screen}
use Rattle.ow_base.specs.Sv32.{WordMap}
use Rattle.ow_base.specs.declared.machine.AreaId.{AreaId}
use Rattle.ow_base.specs.declared.machine.AreaId.TheVariants.{A, B}
use Rattle.ow_base.specs.declared.machine.Shape.{Shape}
use Rattle.phys_memory.specs.Memory.{words_of}
use Rattle.intent_store.specs.Live.{records_held}
use Rattle.kernel_builder.specs.Sets.{IsBuilt}
use Rattle.kernel_takeover.specs.Areas.{other_area}
use Rattle.kernel_traps.specs.Plants.{IsOfDevice, IsSound, context_of, unix_at}
use Rattle.ow_plant.specs.Images.{image_of, tapes_of}
use Rattle.ow_plant.specs.Owning.{left_by}
use Rattle.ow_plant.specs.State.{Device, PlantState, now_of, tty_of}
use Rattle.record_layouts.specs.declared.places.RecordId.TheVariants as id
use Rattle.record_layouts.specs.declared.term.TermRec.{TermRec}
use Rattle.record_layouts.specs.Decode.{InKernel, terminal_by}
use Rattle.record_layouts.specs.Halves.{half_map}
use Rattle.record_layouts.specs.Held.{Records}
use Rattle.record_layouts.specs.Images.{records_of_image, unix_of_image}
use Rattle.record_layouts.specs.Left.{HandedOver}
use Rattle.record_layouts.specs.Reading.{records_in, records_of}
use Rattle.record_layouts.specs.SoundImages.{IsServedBefore, IsSoundAtPanic, IsSoundImage}
use Rattle.record_layouts.specs.Terminals.{IsOfTape, ShowsScreen}
use Rattle.record_layouts.specs.Unix.Abort.{abort, fates}
use Rattle.record_layouts.specs.Unix.State.{Unix}
use Rattle.record_layouts.specs.Unix.Wounds.{no_wounds}
use Rattle.resurrector.specs.Plants.{own_map, own_words_in}
use Rattle.resurrector.specs.Plants as plants
use Rattle.resurrector.specs.Rebuilt.{IsRevived, tapes_put}
use Rattle.resurrector.specs.Revived.{revived_plan}
use Rattle.resurrector.specs.RevivedImages.{image_revived}
use Rattle.resurrector.proofs.Built.{read_as_revived}
use Rattle.resurrector.proofs.LeftRevivals.{built_unix, told_fates}
use Rattle.resurrector.proofs.SoundFlights.{put_same}
use Rattle.resurrector.proofs.SoundRevived.{image_sound}
use Rattle.tty_screen.proofs.ShownScreens.{one_screen}
use Rattle.schedule_runner.specs.Revivals.{IsBroken, IsResurrected, dead_words, fates_aborted, fates_told, taken_over, unix_aborted}
use Rattle.schedule_runner.proofs.DeadImages.{dead_image, left_same, sound_too}
use Rattle.schedule_runner.proofs.Halves.{built_in_memory, own_words_same}
use Rattle.schedule_runner.proofs.ShownAgain.{shown_too}

other_same : (area : AreaId) → other_area area ≡ plants.other_area area
other_same A = refl
other_same B = refl

-- there are two terminals
pub no_more_terminals : (i : Image) (n : ℕ) → (records_of_image i).terms (suc (suc n)) ≡ None
unfolding records_of records_in
no_more_terminals i n = grind (arith, nat_tests)

pub no_more_tapes : (s : PlantState) (n : ℕ) → tapes_of s (suc (suc n)) ≡ []
no_more_tapes s n =
    let not_zeroth : (suc (suc n) == 0) ≡ false = grind (arith, nat_tests) in
    let not_other : (suc (suc n) == 1) ≡ false = grind (arith, nat_tests) in
    rw (not_zeroth, not_other) refl

map_frames : (i : Image) → i.user_frames ≡ (records_of_image i).map.user_frames
unfolding records_of records_in
map_frames i = refl

of_device : (r : Records) (tty : ℕ) (device : Device) (held : Option TermRec) → ShowsScreen r tty device.display
    → IfSome held (λ terminal. IsOfTape r tty device.tape terminal) → IfSome held (IsOfDevice r tty device)
of_device r tty device (Some terminal) shows is = record { tape = is; display = one_screen shows is.rows }
of_device r tty device None shows is = tt

few_bytes : (tape : List ℕ) (most : ℕ) (held : Option TermRec) → is_some held ≡ true → IfSome held (λ terminal. length tape ≤ most) → length tape ≤ most
few_bytes tape most (Some terminal) there few = few
few_bytes tape most None there few = cc

pub dead_sound : (s : PlantState) (h : HandedOver) → IsBroken s h → IsSoundAtPanic (dead_image s) s.steps s.traps
dead_sound s h broken = sound_too s broken.armed s.steps s.traps broken.sound

pub fates_same : (s : PlantState) (h : HandedOver) → IsBroken s h → fates_told s ≡ fates_aborted s h
fates_same s h broken =
    told_fates (left_by s) (dead_words s) (tapes_of s) h broken.handed s.steps s.traps s.steps s.traps (dead_sound s h broken)
    ∙ ap (λ (u : Unix). fates u (no_wounds u)) (sym (left_same s broken.armed h s.steps s.traps))

module _ (old new : PlantState) (h : HandedOver) (broken : IsBroken old h) (made : IsResurrected old new) where
  abbrev after : PlantState
  after = taken_over new

  abbrev i : Image
  i = dead_image old

  abbrev area : AreaId
  area = plants.other_area old.live

  abbrev words : WordMap
  words = words_of new.memory

  abbrev counts : List ℕ
  counts = length (tty_of old 0).tape ∷ length (tty_of old 1).tape ∷ []

  live_same : new.live ≡ old.live
  live_same = ap (λ (s : PlantState). s.live) made.rest

  area_same : other_area new.live ≡ area
  area_same = other_same new.live ∙ ap plants.other_area live_same

  own_same : (frame word : ℕ) → (own_map (left_by old)).area_base ≤ frame → frame < (own_map (left_by old)).area_base + (128 + old.shape.user_frames) → word < 1024
      → words frame word ≡ own_words_in new frame word
  own_same = subst (λ (s : AreaId × Shape). (frame word : ℕ) → (half_map (plants.other_area s.0) s.1.user_frames s.1.sectors).area_base ≤ frame
      → frame < (half_map (plants.other_area s.0) s.1.user_frames s.1.sectors).area_base + (128 + s.1.user_frames) → word < 1024
      → words frame word ≡ own_words_in new frame word) (λ k. (live_same k, made.shape k))
      (own_words_same new.shape.user_frames new.memory new.live made.armed.sized)

  built_as : IsBuilt (own_map (left_by old)) (revived_plan (records_of_image i) (Some h) counts i.words) (own_words_in old) (own_words_in new)
  built_as = subst (λ (handed : Option HandedOver). IsBuilt (own_map (left_by old)) (revived_plan (records_of_image i) handed counts i.words) (own_words_in old) (own_words_in new))
      broken.handed made.built

  built : IsBuilt (own_map (left_by old)) (revived_plan (records_of_image i) (Some h) counts i.words) words words
  built = built_in_memory area old.shape.user_frames old.shape.sectors _ (own_words_in old) (own_words_in new) words broken.armed.few_frames own_same built_as

  tape_same : (tty : ℕ) → tapes_of new tty ≡ tapes_put (records_of_image i) i.tapes tty
  tape_same zero = made.tape0 ∙ put_same i old.steps old.traps (dead_sound old h broken) 0 (omega arith)
  tape_same (suc zero) = made.tape1 ∙ put_same i old.steps old.traps (dead_sound old h broken) 1 (omega arith)
  tape_same (suc (suc n)) =
      no_more_tapes new n
      ∙ sym (ap (λ (o : Option TermRec). (terminal_by (tapes_of old (suc (suc n))) o).tape) (no_more_terminals i n) ∙ no_more_tapes old n)

  image_same : image_of after ≡ image_revived i area words
  image_same = λ k. record {
    words = words;
    area = area_same k;
    user_frames = (made.shape k).user_frames;
    sectors = (made.shape k).sectors;
    tapes = λ tty. tape_same tty k;
  }

  image_after : IsSoundImage (image_of after) old.steps (h.trap + 1)
  image_after = subst (λ (image : Image). IsSoundImage image old.steps (h.trap + 1)) (sym image_same)
      (image_sound i old.steps old.traps (dead_sound old h broken) h counts area words words broken.armed.few_frames built)

  steps_same : new.steps ≡ old.steps
  steps_same = ap (λ (s : PlantState). s.steps) made.rest

  traps_same : new.traps ≡ old.traps
  traps_same = ap (λ (s : PlantState). s.traps) made.rest

  in_kernel : new.in_user ≡ false
  in_kernel = ap (λ (s : PlantState). s.in_user) made.rest ∙ broken.in_kernel

  no_trap_runs : new.in_trap ≡ false
  no_trap_runs = ap (λ (s : PlantState). s.in_trap) made.rest ∙ broken.no_trap_runs

  next_trap : h.trap + 1 ≡ (now_of after).trap
  next_trap = rw no_trap_runs (omega (arith, broken.trap, traps_same, broken.sound.counted))

  -- the displays show what the records tell
  revived : IsRevived (records_of_image i) (Some h) counts i.words (records_of (own_map (left_by old)) (own_words_in new)) (own_words_in new)
  revived = read_as_revived (records_of_image i) (Some h) counts i.words (own_map (left_by old)) (own_words_in old) (own_words_in new) broken.armed.few_frames (map_frames i) built_as

  revived_after : IsRevived (records_of_image i) (Some h) counts i.words (records_of (own_map (left_by old)) words) words
  revived_after = read_as_revived (records_of_image i) (Some h) counts i.words (own_map (left_by old)) words words broken.armed.few_frames (map_frames i) built

  records_same : records_of (own_map (left_by old)) words ≡ records_held after
  records_same = sym (ap records_of_image image_same)

  shown : (tty : ℕ) (screen : Screen) → tty < 2 → ShowsScreen (records_of (own_map (left_by old)) (own_words_in new)) tty screen → ShowsScreen (records_held after) tty screen
  shown tty screen low shows = subst (λ (r : Records). ShowsScreen r tty screen) records_same
      (shown_too (records_of_image i) (Some h) counts i.words (records_of (own_map (left_by old)) (own_words_in new)) (records_of (own_map (left_by old)) words) (own_words_in new) words revived revived_after tty screen low shows)

  device : (tty : ℕ) → tty < 2 → IfSome ((records_held after).terms tty) (IsOfDevice (records_held after) tty (tty_of after tty))
  device zero low = of_device (records_held after) 0 new.tty0 ((records_held after).terms 0) (shown 0 new.tty0.display low made.shown0) (image_after.terminals.records 0 low)
  device (suc zero) low = of_device (records_held after) 1 new.tty1 ((records_held after).terms 1) (shown 1 new.tty1.display low made.shown1) (image_after.terminals.records 1 low)
  device (suc (suc n)) low = absurd (omega (arith, low))

  few : (tty : ℕ) → tty < 2 → length (tty_of after tty).tape ≤ 16 * old.steps
  few zero low = few_bytes new.tty0.tape (16 * old.steps) ((records_held after).terms 0) (image_after.records.complete (id.Term 0) low) (image_after.terminals.few 0 low)
  few (suc zero) low = few_bytes new.tty1.tape (16 * old.steps) ((records_held after).terms 1) (image_after.records.complete (id.Term 1) low) (image_after.terminals.few 1 low)
  few (suc (suc n)) low = absurd (omega (arith, low))

  pub sound_after : IsSound after
  sound_after = record {
    held = record {
      armed = record { armed = made.armed.armed; sized = made.armed.sized; few_frames = made.armed.few_frames };
      able = made.able;
      shut = image_after.shut;
      records = image_after.records;
      on_terminals = image_after.on_terminals;
      in_built_calls = image_after.in_built_calls;
    };
    no_trap_runs = no_trap_runs;
    served = subst (λ (trap : ℕ). IsServedBefore (records_held after) trap) next_trap image_after.served;
    terminals = record { records = device; bytes = λ tty low. subst (λ (n : ℕ). length (tty_of after tty).tape ≤ 16 * n) (sym steps_same) (few tty low) };
    budget = omega (arith, broken.budget, steps_same, ap (λ (s : Shape). s.budget) made.shape);
    in_user = λ user. let kernel : new.in_user ≡ false = in_kernel in absurd cc;
  }

  context_same : context_of after ≡ InKernel
  context_same = rw in_kernel refl

  pub unix_after : unix_at after ≡ unix_aborted old h
  unfolding unix_at
  unix_after =
      (λ k. unix_of_image (image_same k) (context_same k) (steps_same k) (traps_same k))
      ∙ built_unix (left_by old) (dead_words old) (tapes_of old) h broken.handed old.steps old.traps old.steps old.traps (dead_sound old h broken)
      (own_map (left_by old)) words words broken.armed.few_frames refl
      (subst (λ (handed : Option HandedOver). IsBuilt (own_map (left_by old)) (revived_plan (records_of_image i) handed counts i.words) words words) (sym broken.handed) built)
      ∙ ap (λ (u : Unix). abort u (no_wounds u)) (sym (left_same old broken.armed h old.steps old.traps))
