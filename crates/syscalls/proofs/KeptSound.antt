-- Records on which a call is served are sound again.
use Rattle.std.proofs.Common.{◌≡◌, ◌≢◌, ◌==◌, ◌||◌, ℕ, zero, suc, ◌+◌, ◌-◌, ◌/◌, ◌%◌, ◌<◌, ◌≤◌, Bool, true, false, nat_lt, List, [], ◌∷◌, length, slice_get, slice_index, Option, Some, None, IfSome, inl, inr, refl, sym, subst, arith}
use Rattle.std.proofs.lemmas.Bool.{cases_Bool}
use Rattle.std.proofs.lemmas.Bool.Decides.{eqb_tells, nat_tests}
use Rattle.ow_base.specs.Sv32.{WordMap}
use Rattle.ow_base.specs.Words.{minus}
use Rattle.ow_base.specs.UserStep.{register}
use Rattle.ow_base.specs.Pages.{Pages, is_readable}
use Rattle.ow_base.specs.declared.machine.Bank.{Bank}
use Rattle.record_layouts.specs.declared.places.RecordId.TheVariants as id
use Rattle.record_layouts.specs.declared.head.HeadRec.{HeadRec}
use Rattle.record_layouts.specs.declared.proc.ProcRec.{ProcRec}
use Rattle.record_layouts.specs.declared.desc.DescRec.{DescRec}
use Rattle.record_layouts.specs.declared.term.TermRec.{TermRec}
use Rattle.record_layouts.specs.declared.row.RowRec.{RowRec}
use Rattle.record_layouts.specs.Unix.Calls.{tty_piece}
use Rattle.record_layouts.specs.Held.{Records, with_items}
use Rattle.record_layouts.specs.Pages.{pages_of, page_total}
use Rattle.record_layouts.specs.Proc.{FitsLive, FitsProc}
use Rattle.record_layouts.specs.Sound.{IsIn, IsInCall, IsOpenTo, AreSound}
use Rattle.record_layouts.specs.Spelling.{IsStatus}
use Rattle.frame_table.specs.Free.{free_before}
use Rattle.address_space.specs.Spaces.{IsGrown, OnlyPrepares}
use Rattle.process_table.specs.Patches.{bank_of, ended_items, saved_process}
use Rattle.process_table.proofs.Ended.{live_fits}
use Rattle.process_table.proofs.EndedSound.{ended_sound}
use Rattle.syscalls.specs.Planned.{PlanGrow, answered_process, argument_of, break_of, caller_with, grown_process, if_open, is_written, items_of, named, named_by, pages_more, planned_call, planned_further, planned_number, planned_on, planned_piece, planned_sbrk, planned_tty, planned_wait, planned_write, planned_write_on, staying_process, stopped_answer, written_process, yielded_process, planned_fork, planned_fork_in}
use Rattle.syscalls.specs.Done.{KeepsSound, held_as}
use Rattle.syscalls.proofs.Becoming.{IsAfter, prepared}
use Rattle.syscalls.proofs.AfterSound.{after_sound, next_sound}
use Rattle.syscalls.proofs.Grown.{grown_are_mapped, grown_has}
use Rattle.syscalls.proofs.Naming.{InWrite, in_write}
use Rattle.syscalls.proofs.WaitSound.{wait_keeps}
use Rattle.syscalls.proofs.ForkSound.{fork_keeps}
use Rattle.syscalls.proofs.ForkPlan.{can_fork}
use Rattle.process_table.specs.Slots.{is_free}
use Rattle.record_layouts.specs.Unix.Choice.{least_from}
use Rattle.record_layouts.specs.declared.sig.SigRec.{SigRec}

-- what a process has that a descriptor of it names a description
pub record IsNamed (r : Records) (words : List ℕ) (descriptor : ℕ) (d : DescRec) : Type 0 where
  pub within : descriptor < length words
  pub some : slice_index words descriptor ≢ 0
  pub there : r.descs (slice_index words descriptor - 1) ≡ Some d

open_there : (held : Option DescRec) (d : DescRec) → if_open held ≡ Some d → held ≡ Some d
open_there None d is = cc
open_there (Some e) d is = elim (cases_Bool (e.object == 0)) [ inl closed ↦ let none : None ≡ Some d = rw closed at is in cc | inr isnt ↦ rw isnt at is ]

word_there : (r : Records) (word : ℕ) (d : DescRec) → named_by r.descs (Some word) ≡ Some d → (word ≢ 0) × (r.descs (word - 1) ≡ Some d)
word_there r word d is = elim (eqb_tells word 0) [
  | inl (none, same) ↦ let nothing : None ≡ Some d = rw none at is in cc
  | inr (some, differs) ↦ (differs, open_there (r.descs (word - 1)) d (rw some at is))
]

named_there : (r : Records) (words : List ℕ) (i : ℕ) (d : DescRec) → named_by r.descs (slice_get words i) ≡ Some d → IsNamed r words i d
named_there r [] i d is = cc
named_there r (word ∷ words) zero d is = let found = word_there r word d is in record { within = omega arith; some = found.0; there = found.1 }
named_there r (word ∷ words) (suc i) d is = let found = named_there r words i d is in record { within = omega (arith, found.within); some = found.some; there = found.there }

pub is_named : (r : Records) (words : List ℕ) (i : ℕ) (d : DescRec) → named r words i ≡ Some d → IsNamed r words i d
unfolding named
is_named r words i d is = named_there r words i d is

-- a write that may be made through a description
pub record IsWrite (r : Records) (process : ProcRec) (d : DescRec) : Type 0 where
  pub descriptor : register process.regs 10 < 8
  pub named : slice_index process.descs (register process.regs 10) ≢ 0
  pub there : r.descs (slice_index process.descs (register process.regs 10) - 1) ≡ Some d
  pub allowed : IsOpenTo 2 d
  pub count : register process.regs 12 ≤ 0x7fffffff

opens : (d : DescRec) → is_written d ≡ true → IsOpenTo 2 d
opens d writes =
    let half : d.mode / 2 ≡ 1 = grind (arith, nat_tests) in
    elim (eqb_tells d.mode 2) [ inl (test, two) ↦ inl two | inr (test, other) ↦ inr (omega (arith, half, other)) ]

module _ (r : Records) (head : HeadRec) (slot : ℕ) (process : ProcRec) (bank : Bank) (trap : ℕ) (sound : AreSound r) (is_head : r.head ≡ Some head) (is : IsIn r slot process) where
  abbrev saved : ProcRec
  saved = saved_process process bank

  process_fits : FitsProc process
  process_fits = subst (λ (held : Option ProcRec). IfSome held FitsProc) is.there (sound.values (id.Proc slot))

  held : FitsLive process
  held = live_fits process process_fits is.live

  answered_fits : (answer : ℕ) → FitsProc (answered_process saved answer)
  answered_fits answer = record {
    state = omega arith;
    free = λ s. absurd (omega (arith, s));
    live = λ s. record {
      pid = held.pid;
      parent = held.parent;
      code_pages = held.code_pages;
      data_pages = held.data_pages;
      heap_end = held.heap_end;
      flags = held.flags;
      status = held.status;
      descs = held.descs;
    };
    no_call = λ s. refl;
    none_done = λ s. refl;
    ended = λ s. absurd (omega (arith, s));
  }

  yielded_fits : FitsProc (yielded_process saved)
  yielded_fits = record {
    state = omega arith;
    free = λ s. absurd (omega (arith, s));
    live = λ s. record {
      pid = held.pid;
      parent = held.parent;
      code_pages = held.code_pages;
      data_pages = held.data_pages;
      heap_end = held.heap_end;
      flags = held.flags;
      status = held.status;
      descs = held.descs;
    };
    no_call = λ s. refl;
    none_done = λ s. refl;
    ended = λ s. absurd (omega (arith, s));
  }

  staying_fits : (done : ℕ) → FitsProc (staying_process saved done)
  staying_fits done = record {
    state = omega arith;
    free = λ s. absurd (omega (arith, s));
    live = λ s. record {
      pid = held.pid;
      parent = held.parent;
      code_pages = held.code_pages;
      data_pages = held.data_pages;
      heap_end = held.heap_end;
      flags = held.flags;
      status = held.status;
      descs = held.descs;
    };
    no_call = λ s. absurd (omega (arith, s));
    none_done = λ s. absurd (omega (arith, s));
    ended = λ s. absurd (omega (arith, s));
  }

  answered_after : (answer : ℕ) → IsAfter process (answered_process saved answer)
  answered_after answer = record { pid = refl; parent = refl; status = refl; descs = refl; regions = record { live = refl; lives = is.live; code = refl; values = refl; brk = refl } }

  yielded_after : IsAfter process (yielded_process saved)
  yielded_after = record { pid = refl; parent = refl; status = refl; descs = refl; regions = record { live = refl; lives = is.live; code = refl; values = refl; brk = refl } }

  staying_after : (done : ℕ) → IsAfter process (staying_process saved done)
  staying_after done = record { pid = refl; parent = refl; status = refl; descs = refl; regions = record { live = refl; lives = is.live; code = refl; values = refl; brk = refl } }

  pub answered_sound : (answer : ℕ) → AreSound (with_items r (items_of (caller_with slot trap head saved) (answered_process saved answer)))
  answered_sound answer = after_sound r head slot process (answered_process saved answer) trap sound is_head is (answered_after answer) (answered_fits answer) (λ s. absurd (omega (arith, s)))

  pub yielded_sound : AreSound (with_items r (items_of (caller_with slot trap head saved) (yielded_process saved)))
  yielded_sound = after_sound r head slot process (yielded_process saved) trap sound is_head is yielded_after yielded_fits (λ s. absurd (omega (arith, s)))

  same_fits : FitsProc saved
  same_fits = record {
    state = process_fits.state;
    free = λ s. absurd (grind (arith, nat_tests, is.live, s));
    live = λ s. record {
      pid = held.pid;
      parent = held.parent;
      code_pages = held.code_pages;
      data_pages = held.data_pages;
      heap_end = held.heap_end;
      flags = held.flags;
      status = held.status;
      descs = held.descs;
    };
    no_call = process_fits.no_call;
    none_done = process_fits.none_done;
    ended = λ s. absurd (grind (arith, nat_tests, is.live, s));
  }

  same_after : IsAfter process saved
  same_after = record { pid = refl; parent = refl; status = refl; descs = refl; regions = record { live = is.live; lives = is.live; code = refl; values = refl; brk = refl } }

  pub nothing_sound : (process.state ≡ 2 → IsInCall r saved) → AreSound (with_items r (items_of (caller_with slot trap head saved) saved))
  nothing_sound call = after_sound r head slot process saved trap sound is_head is same_after same_fits call

  grown_fits : (bytes : ℕ) → nat_lt 0x400000 (break_of saved + bytes) ≡ false → FitsProc (grown_process saved bytes)
  grown_fits bytes room =
      let most : break_of saved + bytes ≤ 0x400000 = grind (arith, nat_tests, room) in
      record {
        state = omega arith;
        free = λ s. absurd (omega (arith, s));
        live = λ s. record {
          pid = held.pid;
          parent = held.parent;
          code_pages = held.code_pages;
          data_pages = held.data_pages;
          heap_end = omega (arith, most);
          flags = held.flags;
          status = held.status;
          descs = held.descs;
        };
        no_call = λ s. refl;
        none_done = λ s. refl;
        ended = λ s. absurd (omega (arith, s));
      }

  pub grown_sound : (bytes : ℕ) (words then_words : WordMap) (owners : ℕ → ℕ) (tables : (slot table word : ℕ) → ℕ) → nat_lt 0x400000 (break_of saved + bytes) ≡ false
      → OnlyPrepares slot (held_as r words) (held_as (prepared r owners tables) then_words)
      → IsGrown (held_as r words) (held_as (prepared r owners tables) then_words) slot (pages_more saved bytes) process
      → AreSound (with_items (prepared r owners tables) (items_of (caller_with slot trap head saved) (grown_process saved bytes)))
  grown_sound bytes words then_words owners tables room prepares grows =
      next_sound r head slot process (grown_process saved bytes) trap sound is_head is (record { pid = refl; parent = refl; status = refl; descs = refl; live = refl })
      (grown_fits bytes room) (λ s. absurd (omega (arith, s))) owners tables
      (grown_are_mapped r words slot owners tables then_words sound prepares process is (grown_process saved bytes) (pages_more saved bytes)
      (grown_has process saved bytes refl refl refl) grows head trap)

  pub grown_keeps : (bytes : ℕ) → nat_lt 0x400000 (break_of saved + bytes) ≡ false
      → KeepsSound r slot process (PlanGrow (pages_more saved bytes) (items_of (caller_with slot trap head saved) (grown_process saved bytes)))
  grown_keeps bytes room words then_words new prepares grows =
      let items = items_of (caller_with slot trap head saved) (grown_process saved bytes) in
      let base = prepared r new.owners new.table_words in
      let is_base : new ≡ base = prepares.records in
      let prepares_base = subst (λ (x : Records). OnlyPrepares slot (held_as r words) (held_as x then_words)) is_base prepares in
      let grows_base = subst (λ (x : Records). IsGrown (held_as r words) (held_as x then_words) slot (pages_more saved bytes) process) is_base grows in
      subst (λ (x : Records). AreSound (with_items x items)) (sym is_base) (grown_sound bytes words then_words new.owners new.table_words room prepares_base grows_base)

  pub exited_sound : (status : ℕ) → IsStatus status → AreSound (with_items r (ended_items head slot saved status trap))
  unfolding ended_items
  exited_sound status word = ended_sound r head slot process status trap sound is_head is word

  stays_in_write : (d : DescRec) (done : ℕ) → IsWrite r saved d → done < argument_of saved 2 → IsInCall r (staying_process saved done)
  stays_in_write d done write left = inl (refl, (d, record { descriptor = write.descriptor; named = write.named; there = write.there; allowed = write.allowed; count = write.count; left = left }))

  pub staying_sound : (d : DescRec) (done : ℕ) → IsWrite r saved d → done < argument_of saved 2 → AreSound (with_items r (items_of (caller_with slot trap head saved) (staying_process saved done)))
  staying_sound d done write left = after_sound r head slot process (staying_process saved done) trap sound is_head is (staying_after done) (staying_fits done) (λ s. stays_in_write d done write left)

  pub written_sound : (d : DescRec) (done : ℕ) → IsWrite r saved d → done ≤ argument_of saved 2
      → AreSound (with_items r (items_of (caller_with slot trap head saved) (written_process saved (argument_of saved 2) done)))
  written_sound d done write most = elim (eqb_tells done (argument_of saved 2)) [
    | inl (last, same) ↦ rw last (answered_sound (argument_of saved 2))
    | inr (more, other) ↦ rw more (staying_sound d done write (omega (arith, most, other)))
  ]

-- with other records of terminals and rows the same holds
write_too : (r : Records) (terms : ℕ → Option TermRec) (rows : ℕ → Option RowRec) (process : ProcRec) (d : DescRec) → IsWrite r process d → IsWrite (record r { terms = terms; rows = rows }) process d
write_too r terms rows process d write = record { descriptor = write.descriptor; named = write.named; there = write.there; allowed = write.allowed; count = write.count }

in_too : (r : Records) (terms : ℕ → Option TermRec) (rows : ℕ → Option RowRec) (slot : ℕ) (process : ProcRec) → IsIn r slot process → IsIn (record r { terms = terms; rows = rows }) slot process
in_too r terms rows slot process is = record { within = is.within; there = is.there; live = is.live }

module _ (r : Records) (head : HeadRec) (slot : ℕ) (process : ProcRec) (bank : Bank) (trap : ℕ) (sound : AreSound r) (is_head : r.head ≡ Some head) (is : IsIn r slot process) (pages : Pages) where
  abbrev caller_saved : ProcRec
  caller_saved = saved_process process bank

  pub tty_keeps : (d : DescRec) (tty done : ℕ) → IsWrite r caller_saved d → done < argument_of caller_saved 2 → KeepsSound r slot process (planned_tty pages (caller_with slot trap head caller_saved) tty done)
  unfolding planned_tty
  tty_keeps d tty done write left =
      let count = argument_of caller_saved 2 in
      let len = tty_piece count done in
      elim (cases_Bool (is_readable pages (argument_of caller_saved 1 + done) len)) [
        | inl all ↦ rw all (λ terms rows too.
            written_sound (record r { terms = terms; rows = rows }) head slot process bank trap too is_head (in_too r terms rows slot process is) d (done + len)
            (write_too r terms rows caller_saved d write) (omega arith))
        | inr some ↦ rw some (answered_sound r head slot process bank trap sound is_head is (stopped_answer done 14))
      ]

  -- on a file nothing is done; a process in a call stays in it
  on_keeps : (d : DescRec) (done : ℕ) → (process.state ≡ 2 → IsInCall r caller_saved) → IsWrite r caller_saved d → done < argument_of caller_saved 2
      → KeepsSound r slot process (planned_on pages (caller_with slot trap head caller_saved) d done)
  on_keeps d done call write left = elim (cases_Bool (d.object == 1)) [
    | inl file ↦ rw file (nothing_sound r head slot process bank trap sound is_head is call)
    | inr terminal ↦ rw terminal (tty_keeps d d.index done write left)
  ]

  write_keeps : (d : DescRec) → process.state ≡ 1 → IsNamed r process.descs (argument_of caller_saved 0) d → length process.descs ≡ 8
      → KeepsSound r slot process (planned_write_on pages (caller_with slot trap head caller_saved) (Some d))
  unfolding planned_write_on
  write_keeps d out it eight = elim (cases_Bool (is_written d)) [
    | inl writes ↦ elim (cases_Bool (nat_lt 0x7fffffff (argument_of caller_saved 2))) [
      | inl many ↦ rw (writes, many) (answered_sound r head slot process bank trap sound is_head is (minus 22))
      | inr few ↦ elim (cases_Bool (argument_of caller_saved 2 == 0)) [
        | inl none ↦ rw (writes, few, none) (answered_sound r head slot process bank trap sound is_head is 0)
        | inr some ↦
            let count : argument_of caller_saved 2 ≤ 0x7fffffff = grind (arith, nat_tests) in
            let left : 0 < argument_of caller_saved 2 = grind (arith, nat_tests) in
            let write : IsWrite r caller_saved d = record { descriptor = omega (arith, it.within, eight); named = it.some; there = it.there; allowed = opens d writes; count = count } in
            rw (writes, few, some) (on_keeps d 0 (λ s. absurd (omega (arith, s, out))) write left)
      ]
    ]
    | inr reads ↦ rw reads (answered_sound r head slot process bank trap sound is_head is (minus 9))
  ]

  write_by : (held : Option DescRec) → process.state ≡ 1 → ((d : DescRec) → held ≡ Some d → IsNamed r process.descs (argument_of caller_saved 0) d) → length process.descs ≡ 8
      → KeepsSound r slot process (planned_write_on pages (caller_with slot trap head caller_saved) held)
  unfolding planned_write_on
  write_by None out it eight = answered_sound r head slot process bank trap sound is_head is (minus 9)
  write_by (Some d) out it eight = write_keeps d out (it d refl) eight

  neither : (one other : Bool) → (one || other) ≡ false → one ≡ false
  neither one other none = grind (arith, none)

  sbrk_keeps : KeepsSound r slot process (planned_sbrk r (caller_with slot trap head caller_saved))
  unfolding planned_sbrk
  sbrk_keeps =
      let bytes = argument_of caller_saved 0 in
      let far = nat_lt 0x400000 (break_of caller_saved + bytes) in
      let few = nat_lt (free_before r r.map.user_frames) (pages_more caller_saved bytes) in
      elim (cases_Bool (far || few)) [
        | inl full ↦ rw full (answered_sound r head slot process bank trap sound is_head is (minus 12))
        | inr room ↦ rw room (grown_keeps r head slot process bank trap sound is_head is bytes (neither far few room))
      ]

  -- a fork is refused, or makes a child in the first slot that can be taken
  fork_by : (found : Option ℕ) (own : Option SigRec) → least_from (λ place. is_free r (r.procs place)) 0 16 ≡ found → r.sigs slot ≡ own
      → KeepsSound r slot process (planned_fork_in r (caller_with slot trap head caller_saved) found own)
  fork_by None own place signalled = answered_sound r head slot process bank trap sound is_head is (minus 11)
  fork_by (Some child) None place signalled = answered_sound r head slot process bank trap sound is_head is (minus 11)
  fork_by (Some child) (Some signals) place signalled = elim (cases_Bool (nat_lt 256 head.next)) [
    | inl none ↦ rw none (answered_sound r head slot process bank trap sound is_head is (minus 11))
    | inr left ↦ elim (cases_Bool (nat_lt (free_before r r.map.user_frames) (page_total caller_saved))) [
      | inl full ↦ rw (left, full) (answered_sound r head slot process bank trap sound is_head is (minus 12))
      | inr room ↦
          let can = can_fork r head slot child process signals sound is_head is place signalled (grind (arith, nat_tests, left)) in
          rw (left, room) (fork_keeps r head slot child process bank signals trap can)
    ]
  ]

  fork_by_records : KeepsSound r slot process (planned_fork r (caller_with slot trap head caller_saved))
  unfolding planned_fork
  fork_by_records = fork_by (least_from (λ place. is_free r (r.procs place)) 0 16) (r.sigs slot) refl refl

  pub wait_is_kept : KeepsSound r slot process (planned_wait r pages (caller_with slot trap head caller_saved))
  wait_is_kept = wait_keeps r head slot process bank trap sound is_head is (answered_sound r head slot process bank trap sound is_head is) pages

  pub number_keeps : (number : ℕ) → process.state ≡ 1 → length process.descs ≡ 8 → KeepsSound r slot process (planned_number r pages (caller_with slot trap head caller_saved) number)
  unfolding planned_number planned_write
  number_keeps number out eight = elim (cases_Bool (number == 1)) [
    | inl exits ↦
        let small : argument_of caller_saved 0 % 256 ≤ 0xff = omega arith in
        rw exits (exited_sound r head slot process bank trap sound is_head is (argument_of caller_saved 0 % 256) (inl small))
    | inr no_exit ↦ elim (cases_Bool (number == 2)) [
      | inl writes ↦ rw (no_exit, writes) (write_by (named r process.descs (argument_of caller_saved 0)) out (λ d it. is_named r process.descs (argument_of caller_saved 0) d it) eight)
      | inr no_write ↦ elim (cases_Bool (number == 7)) [
        | inl asks ↦ rw (no_exit, no_write, asks) (answered_sound r head slot process bank trap sound is_head is process.pid)
        | inr no_pid ↦ elim (cases_Bool (number == 8)) [
          | inl grows ↦ rw (no_exit, no_write, no_pid, grows) sbrk_keeps
          | inr no_sbrk ↦ elim (cases_Bool (number == 9)) [
            | inl forks ↦ rw (no_exit, no_write, no_pid, no_sbrk, forks) fork_by_records
            | inr no_fork ↦ elim (cases_Bool (number == 10)) [
              | inl waits ↦ rw (no_exit, no_write, no_pid, no_sbrk, no_fork, waits) wait_is_kept
              | inr no_wait ↦ elim (cases_Bool (number == 18)) [
                | inl yields ↦ rw (no_exit, no_write, no_pid, no_sbrk, no_fork, no_wait, yields) (yielded_sound r head slot process bank trap sound is_head is)
                | inr none ↦ rw (no_exit, no_write, no_pid, no_sbrk, no_fork, no_wait, none) (answered_sound r head slot process bank trap sound is_head is (minus 38))
              ]
            ]
          ]
        ]
      ]
    ]
  ]

pub call_keeps : (r : Records) (words : WordMap) (slot trap : ℕ) (head : HeadRec) (process : ProcRec) (bank : Bank) → AreSound r → r.head ≡ Some head → IsIn r slot process
    → process.state ≡ 1 → length process.descs ≡ 8 → KeepsSound r slot process (planned_call r words slot trap head process bank)
unfolding planned_call
call_keeps r words slot trap head process bank sound is_head is out eight =
    number_keeps r head slot process bank trap sound is_head is (pages_of r words slot process) (register bank.regs 17) out eight

write_goes_on : (r : Records) (words : WordMap) (slot trap : ℕ) (head : HeadRec) (process : ProcRec) → AreSound r → r.head ≡ Some head → IsIn r slot process → IsInCall r process → InWrite r process
    → KeepsSound r slot process (planned_further (pages_of r words slot process) (caller_with slot trap head process) (named r process.descs (argument_of process 0)))
write_goes_on r words slot trap head process sound is_head is call it =
    let d = it.description in
    let t = it.transfer in
    let write : IsWrite r process d = record { descriptor = t.descriptor; named = t.named; there = t.there; allowed = t.allowed; count = t.count } in
    subst (λ (held : Option DescRec). KeepsSound r slot process (planned_further (pages_of r words slot process) (caller_with slot trap head process) held)) (sym it.is_named)
    (on_keeps r head slot process (bank_of process) trap sound is_head is (pages_of r words slot process) d process.done (λ _. call) write t.left)

pub piece_keeps : (r : Records) (words : WordMap) (slot trap : ℕ) (head : HeadRec) (process : ProcRec) → AreSound r → r.head ≡ Some head → IsIn r slot process → process.state ≡ 2
    → KeepsSound r slot process (planned_piece r words slot trap head process)
unfolding planned_piece
piece_keeps r words slot trap head process sound is_head is state =
    let call : IsInCall r process = sound.in_calls.calls slot process is state in
    elim (eqb_tells process.call 2) [
      | inl (writes, two) ↦ rw writes (write_goes_on r words slot trap head process sound is_head is call (in_write r process sound.values call two))
      | inr (other, differs) ↦ elim (cases_Bool (process.call == 10)) [
        | inl waits ↦ rw (other, waits) (wait_is_kept r head slot process (bank_of process) trap sound is_head is (pages_of r words slot process))
        | inr neither_one ↦ rw (other, neither_one) (nothing_sound r head slot process (bank_of process) trap sound is_head is (λ _. call))
      ]
    ]
