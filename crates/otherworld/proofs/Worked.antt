-- The worked examples, computed.
use Rattle.std.proofs.Common.{◌≡◌, ℕ, zero, suc, ◌⊎◌, inl, inr, Bool, true, ◌&&◌, refl, ap, sym, subst, ◌∙◌, List, [], Option, Some, None}
use Rattle.std.specs.Prelude.{is_none}
use Rattle.std.proofs.lemmas.Bool.{and_parts}
use Rattle.std.specs.Fmt.{digits}
use Rattle.ow_base.specs.Lines.{hex8, escaped_byte}
use Rattle.ow_base.specs.UserStep.{immediate_act, register_act, branch_act, load_act, store_act, system_act, act_of, gone_to, after_load, after_store, acted, after_fetch, user_step}
use Rattle.ow_base.specs.Pages.{page_space, is_readable, bytes_at}
use Rattle.record_layouts.specs.Unix.State.{Unix, started_rights, started_byte, started_pages, started_process, started_as, started_description, start_of}
use Rattle.record_layouts.specs.Unix.Choice.{least_from, deliverable, goes_on as call_goes_on, chosen, is_any_live, settled}
use Rattle.record_layouts.specs.Unix.Calls.{trapped, answered, stays_in, ended_as, description_of, tty_write, write_entry, exit_entry, called, call_entered, continued, piece_of}
use Rattle.record_layouts.specs.Unix.Turn.{step_of, stepped, user_turn, idled, turn_at, turn, ending_of, closed}
use Rattle.record_layouts.specs.Unix.Panics.{Images, RunWith, RunsWith, Ends, GoesOn}
use Rattle.record_layouts.specs.Unix.PanicReport.{panic_lines, unused_lines, report_with}
use Rattle.record_layouts.specs.declared.fates.Fate.{Fate}
use Rattle.panic_rows.proofs.OneRun.{one}
use Rattle.panic_rows.proofs.Quiet.{history_is_empty, never_due}
use Rattle.ow_base.specs.Screen.{blank_screen, on_next_line, printed, drawn, screen_of}
use Rattle.record_layouts.specs.Unix.Report.{head_text, status_words, process_lines, out_lines, trimmed, row_lines, screen_text, terminal_text}
use Rattle.ow_base.specs.Outside.{appended}
use Rattle.ow_base.specs.World.{IsWorld}
use Rattle.ow_base.specs.declared.machine.Shape.{Shape}
use Rattle.ow_base.specs.declared.worlds.Ending.{Ending}
use Rattle.ow_base.specs.declared.worlds.World.{World}
use Rattle.ow_base.specs.declared.worlds.Ending.TheVariants.{Done, Budget, Restarted}
use Rattle.ow_base.specs.declared.worlds.PanicRecord.{PanicRecord}
use Rattle.ow_plant.specs.State.{PlantState}
use Rattle.world_file.specs.WorldLines.{pieces, tokens, key_of, number_of, word_of, is_name, words_of}
use Rattle.world_file.specs.WorldReasons.{first_reason}
use Rattle.world_file.specs.WorldReading.{with_line, read_lines, read_text}
use Rattle.world_file.specs.WorldRefusals.{IsRefused, IsBuilt}
use Rattle.world_file.specs.declared.why.Why.TheVariants.{Number, Order, End}
use Rattle.world_file.proofs.WorldLaws.{reads, refuses, built_is_not_refused}
use Rattle.world_file.proofs.WorldUnique.{one_world}
use Rattle.otherworld.specs.declared.top.Status.{Status}
use Rattle.otherworld.specs.declared.top.Status.TheVariants as status
use Rattle.schedule_runner.specs.Histories.{images_of}
use Rattle.otherworld.proofs.Agrees.{steps_agree, traps_agree}
use Rattle.otherworld.specs.Top.{Answers, Intends, IsSaid, IsRun, IsReported, memory_text}
use Rattle.otherworld.specs.Rows.{worked_world, exit_seven, exit_seven_text, exit_seven_report, hi_on, hi, hi_text, hi_report, three_hi, three_hi_text, three_hi_report, few_frames_text, no_end_text, panic_twice_text, turned, after}

-- `unfolding rows` lets `refl` compute the reading of a text, a run and a report
unfoldable pub rows : Unit {0}
unfolding digits hex8 escaped_byte immediate_act register_act branch_act load_act store_act system_act act_of gone_to after_load after_store acted after_fetch user_step page_space is_readable bytes_at started_rights started_byte started_pages started_process started_as started_description start_of least_from deliverable call_goes_on chosen is_any_live settled trapped answered stays_in ended_as description_of tty_write write_entry exit_entry called call_entered continued piece_of step_of stepped user_turn idled turn_at turn ending_of closed blank_screen on_next_line printed drawn screen_of head_text status_words process_lines out_lines trimmed row_lines screen_text terminal_text panic_lines unused_lines report_with pieces tokens key_of number_of word_of is_name words_of first_reason with_line read_lines read_text worked_world exit_seven exit_seven_text exit_seven_report hi_on hi hi_text hi_report three_hi three_hi_text three_hi_report few_frames_text no_end_text panic_twice_text turned after
rows = tt

-- the texts of the worlds
pub exit_seven_world : IsWorld exit_seven_text exit_seven
unfolding rows
exit_seven_world = (reads exit_seven_text exit_seven refl).0

pub hi_world : IsWorld hi_text hi
unfolding rows
hi_world = (reads hi_text hi refl).0

pub three_hi_world : IsWorld three_hi_text three_hi
unfolding rows
three_hi_world = (reads three_hi_text three_hi refl).0

hi_built : IsBuilt hi
unfolding rows
hi_built = (reads hi_text hi refl).1

-- the texts that are refused
pub empty_refused : IsRefused [] 1 End
unfolding rows
empty_refused = refuses [] (record { line = 1; why = End }) refl

pub few_frames_refused : IsRefused few_frames_text 2 Number
unfolding rows
few_frames_refused = refuses few_frames_text (record { line = 2; why = Number }) refl

pub no_end_refused : IsRefused no_end_text 9 End
unfolding rows
no_end_refused = refuses no_end_text (record { line = 9; why = End }) refl

pub panic_twice_refused : IsRefused panic_twice_text 10 Order
unfolding rows
panic_twice_refused = refuses panic_twice_text (record { line = 10; why = Order }) refl

-- the run goes on before each of so many turns
unfoldable goes_through : Shape → Unix → (count : ℕ) → Bool
goes_through shape u zero = true
goes_through shape u (suc n) = is_none (ending_of shape u) && goes_through shape (turn shape u) n

-- a turn first and then so many are so many and then a turn
turned_first : (shape : Shape) (u : Unix) (n : ℕ) → turned shape (turn shape u) n ≡ turned shape u (suc n)
unfolding turned
turned_first shape u zero = refl
turned_first shape u (suc n) = ap (turn shape) (turned_first shape u n)

is_none-None : {A : Type 0} (o : Option A) → is_none o ≡ true → o ≡ None
is_none-None None h = refl
is_none-None (Some a) h = absurd (cc h)

module _ (world : World) (images : Images) (none : world.panics ≡ []) where
  -- a run that goes on for so many turns and then ends, of a world that lists no panic
  run_through : (u : Unix) (n : ℕ) (e : Ending) → goes_through world.load.shape u n ≡ true → ending_of world.load.shape (turned world.load.shape u n) ≡ Some e
      → RunsWith world images u [] [] e (closed (turned world.load.shape u n))
  unfolding goes_through turned
  run_through u zero e through last = Ends u e (never_due world u none) last
  run_through u (suc n) e through last =
      let shape = world.load.shape in
      let parts = and_parts (is_none (ending_of shape u)) (goes_through shape (turn shape u) n) through in
      let same = turned_first shape u n in
      GoesOn u [] [] e (closed (turned shape u (suc n))) (never_due world u none) (is_none-None (ending_of shape u) parts.0)
      (subst (λ (w : Unix). RunsWith world images (turn shape u) [] [] e (closed w)) same
      (run_through (turn shape u) n e parts.1 (subst (λ (w : Unix). ending_of shape w ≡ Some e) (sym same) last)))

-- the runs
pub exit_seven_run : (images : Images) → RunWith exit_seven images [] [] Done (closed (after exit_seven 3))
unfolding rows goes_through
exit_seven_run images = run_through exit_seven images refl (start_of exit_seven.load) 3 Done refl refl

pub hi_run : (images : Images) → RunWith hi images [] [] Done (closed (after hi 8))
unfolding rows goes_through
hi_run images = run_through hi images refl (start_of hi.load) 8 Done refl refl

pub three_hi_run : (images : Images) → RunWith three_hi images [] [] Done (closed (after three_hi 24))
unfolding rows goes_through
three_hi_run images = run_through three_hi images refl (start_of three_hi.load) 24 Done refl refl

pub three_hi_reports : report_with three_hi.panics [] [] Done (closed (after three_hi 24)) ≡ three_hi_report
unfolding rows
three_hi_reports = refl

hi_lists_none : hi.panics ≡ []
unfolding rows
hi_lists_none = refl

pub hi_steps : (closed (after hi 8)).steps ≡ 8
unfolding rows
hi_steps = refl

pub hi_traps : (closed (after hi 8)).traps ≡ 3
unfolding rows
hi_traps = refl

pub hi_reports : report_with hi.panics [] [] Done (closed (after hi 8)) ≡ hi_report
unfolding rows
hi_reports = refl

-- what is reported of the world hi, which lists no panic
of_hi : (plant : PlantState) (ending : Ending) (text : List ℕ) → IsReported hi plant ending text → (ending ≡ Done) × (plant.steps ≡ 8) × (plant.traps ≡ 3) × (text ≡ hi_report)
of_hi plant ending text is =
    let none = history_is_empty hi (images_of plant) (start_of hi.load) plant.history is.told ending is.w hi_lists_none is.run in
    let run = subst (λ (h : List PanicRecord). RunWith hi (images_of plant) h is.told ending is.w) none.0 is.run in
    let same = one hi (images_of plant) (start_of hi.load) [] is.told [] ending Done is.w (closed (after hi 8)) run (hi_run (images_of plant)) in (
      same.1,
      steps_agree plant is.w is.agrees ∙ ap (λ (w : Unix). w.steps) same.2 ∙ hi_steps,
      traps_agree plant is.w is.agrees ∙ ap (λ (w : Unix). w.traps) same.2 ∙ hi_traps,
      is.reported ∙ ap (λ h. report_with hi.panics h is.told ending is.w) none.0 ∙ ap (λ t. report_with hi.panics [] t ending is.w) same.0
          ∙ ap (λ w. report_with hi.panics [] [] ending w) same.2 ∙ ap (λ e. report_with hi.panics [] [] e (closed (after hi 8))) same.1 ∙ hi_reports,
    )

one_report : (left : Option (List ℕ)) (plant : PlantState) (ending : Ending) (text : List ℕ) → IsRun (Some hi_text) left plant ending text
    → (ending ≡ Done) × (plant.steps ≡ 8) × (plant.traps ≡ 3) × (left ≡ Some []) × (text ≡ hi_report)
one_report left plant ending text run =
    let read = run.1 in
    let spelled = subst (λ bytes. IsWorld bytes run.0) read.told.0 read.value in
    let same = one_world hi_text run.0 hi spelled hi_world in
    let found = of_hi plant ending text (subst (λ world. IsReported world plant ending text) same run.2) in
    (found.0, found.1, found.2, read.told.1, found.3)

module _ (left : Option (List ℕ)) (read_rose : Type 0) (old new : PlantState) where
  -- a status that may be answered to the text of hi
  abbrev Meant : Status → (text : List ℕ) → Type 0
  Meant answer text = ((answer ≡ status.Done) × (text ≡ hi_report) × (new.steps ≡ 8) × (new.traps ≡ 3) × (left ≡ Some []))
      ⊎ ((answer ≡ status.Memory) × (text ≡ memory_text) × (new ≡ old))

  meant : (answer : Status) (text : List ℕ) → (read_rose → ⊥) → Intends true (Some hi_text) left read_rose old new answer text → Meant answer text
  meant status.Usage text calm is = absurd (cc is.0)
  meant (status.BadWorld number why) text calm is = absurd (built_is_not_refused hi_text hi number why hi_world hi_built is.1.0)
  meant status.ReadFault text calm is = absurd (calm is.1)
  meant status.WriteFault text calm is = absurd is
  meant status.Memory text calm is = inr (refl, is.2, is.1)
  meant status.Done text calm is = let r = one_report left new Done text is.1 in inl (refl, r.4, r.1, r.2, r.3)
  meant status.Budget text calm is = let r = one_report left new Budget text is.1 in absurd (cc r.0)
  meant status.Restarted text calm is = let r = one_report left new Restarted text is.1 in absurd (cc r.0)

  -- a text that is said where the sink does not fail
  said : (text : List ℕ) (answer given : Status) (write_rose : Type 0) (written all : Option (List ℕ)) → (write_rose → ⊥)
      → IsSaid text answer write_rose written all given → (given ≡ answer) × (all ≡ appended written text)
  said text answer given write_rose written all calm (inl is) = is
  said text answer given write_rose written all calm (inr is) = absurd (calm is.1)

  answers : (text : List ℕ) (answer given : Status) (written all : Option (List ℕ)) → Meant answer text → (given ≡ answer) × (all ≡ appended written text)
      → ((given ≡ status.Done) × (all ≡ appended written hi_report) × (new.steps ≡ 8) × (new.traps ≡ 3) × (left ≡ Some []))
      ⊎ ((given ≡ status.Memory) × (all ≡ appended written memory_text) × (new ≡ old))
  answers text answer given written all (inl m) is = inl (is.0 ∙ m.0, is.1 ∙ ap (appended written) m.1, m.2, m.3, m.4)
  answers text answer given written all (inr m) is = inr (is.0 ∙ m.0, is.1 ∙ ap (appended written) m.1, m.2)

  pub one_answer : (write_rose : Type 0) (written all : Option (List ℕ)) (given : Status) → Answers (Intends true (Some hi_text) left read_rose old new) write_rose written all given
      → (read_rose → ⊥) → (write_rose → ⊥)
      → ((given ≡ status.Done) × (all ≡ appended written hi_report) × (new.steps ≡ 8) × (new.traps ≡ 3) × (left ≡ Some []))
      ⊎ ((given ≡ status.Memory) × (all ≡ appended written memory_text) × (new ≡ old))
  one_answer write_rose written all given is no_read no_write =
      answers is.1 is.0 given written all (meant is.0 is.1 no_read is.2) (said is.1 is.0 given write_rose written all no_write is.3)
