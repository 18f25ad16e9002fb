-- The worked runs, computed.
use Rattle.std.proofs.Common.{arith, ◌≡◌, [], ◌∷◌, Some, None, inl, inr, refl}
use Rattle.ow_base.specs.declared.worlds.Ending.TheVariants.{Done, Budget}
use Rattle.std.specs.Fmt.{digits}
use Rattle.ow_base.specs.Lines.{escaped_byte}
use Rattle.ow_base.specs.UserStep.{act_of, acted, after_fetch, after_load, after_store, branch_act, gone_to, immediate_act, load_act, register_act, store_act, system_act, user_step}
use Rattle.ow_base.specs.Pages.{bytes_at, is_readable, page_space}
use Rattle.ow_base.specs.Screen.{blank_screen, drawn, on_next_line, printed, screen_of}
use Rattle.record_layouts.specs.Unix.State.{in_use, is_among, is_named, start_of, started_as, started_byte, started_description, started_pages, started_process, started_rights}
use Rattle.record_layouts.specs.Unix.Choice.{chosen, deliverable, goes_on, is_any_live, least_from, settled}
use Rattle.record_layouts.specs.Unix.Calls.{answered, call_entered, called, continued, description_of, ended_as, exit_entry, piece_of, stays_in, trapped, tty_write, write_entry}
use Rattle.record_layouts.specs.Unix.Turn.{closed, ending_of, idled, step_of, stepped, turn, turn_at, user_turn}
use Rattle.record_layouts.specs.Unix.Traps.{after_trap, next_trap, trap_at, trap_of_turn}
use Rattle.record_layouts.specs.Unix.Broken.{done_of, IsDone, IsPartlyPut, IsUndone, partly_put, undone_of}
use Rattle.record_layouts.specs.Unix.Wounds.{no_wounds}
use Rattle.record_layouts.specs.Unix.Abort.{abort, bits_lost, bits_of, brought_out, fate_of, fates, fates_from, has_passing}
use Rattle.record_layouts.specs.Unix.Panics.{due_at, Ends, Images, line_for, RunWith}
use Rattle.record_layouts.specs.Unix.Report.{head_text, out_lines, process_lines, row_lines, screen_text, status_words, terminal_text, trimmed}
use Rattle.record_layouts.specs.Unix.PanicReport.{entry_for, panic_line, panic_lines, report_with, unused_lines}
use Rattle.panic_rows.specs.Rows.{after, at_leave, at_store, byte_damage, byte_hurt, damaged_at, damaging_at, exit_closing, exit_closing_end, exit_closing_left, exit_closing_report, exit_first, exit_first_end, exit_first_left, exit_first_report, exit_leave, exit_leave_end, exit_leave_left, exit_leave_report, exit_unused, exit_unused_report, exit_with, head_damage, head_lost, hi_first, hi_first_end, hi_first_left, hi_first_report, hi_hurt, hi_hurt_end, hi_hurt_left, hi_hurt_report, hi_leave, hi_leave_end, hi_leave_left, hi_leave_report, hi_lost, hi_lost_end, hi_lost_left, hi_lost_report, hi_mid, hi_mid_end, hi_mid_left, hi_mid_report, hi_with, loop_at_once, loop_at_once_end, loop_at_once_left, loop_at_once_report, loop_closing, loop_closing_end, loop_closing_left, loop_closing_report, loop_twice, loop_twice_end, loop_twice_left, loop_twice_left_again, loop_twice_report, loop_with, panic_at, retried_panics, retried_unused, revived, scroll, scroll_end, scroll_leave, scroll_leave_end, scroll_leave_left, scroll_leave_report, scroll_left, scroll_with, second_damage, second_lost, three_hi, three_hi_end, three_hi_left, three_hi_report, turned_on, writers, writers_end, writers_left, writers_report}
use Rattle.panic_rows.specs.Mixed.{calling, mixed, mixed_descriptions, mixed_ended, mixed_processes, mixed_revived, mixed_wounds}
use Rattle.record_layouts.specs.declared.fates.Fate.TheVariants as fate
use Rattle.record_layouts.specs.declared.traps.Trap.TheVariants as trap
use Rattle.panic_rows.proofs.Running.{passes, run_of, run_on, run_over}

-- `unfolding rows` lets `refl` compute a run and a report
unfoldable pub rows : Unit {0}
unfolding digits escaped_byte immediate_act register_act branch_act load_act store_act system_act act_of gone_to after_load after_store acted after_fetch user_step page_space is_readable bytes_at blank_screen on_next_line printed drawn screen_of is_among is_named in_use started_rights started_byte started_pages started_process started_as started_description start_of least_from deliverable goes_on chosen is_any_live settled trapped answered stays_in ended_as description_of tty_write write_entry exit_entry called call_entered continued piece_of step_of stepped user_turn idled turn_at turn ending_of closed trap_at trap_of_turn next_trap after_trap undone_of done_of partly_put no_wounds has_passing bits_lost bits_of fate_of brought_out abort fates_from fates line_for due_at head_text status_words process_lines out_lines trimmed row_lines screen_text terminal_text panic_line panic_lines entry_for unused_lines report_with retried_panics retried_unused turned_on hi_with hi_first hi_first_left hi_first_end hi_first_report hi_leave hi_leave_left hi_leave_end hi_leave_report hi_mid hi_mid_left hi_mid_end hi_mid_report exit_with exit_first exit_first_left exit_first_end exit_first_report exit_leave exit_leave_left exit_leave_end exit_leave_report exit_closing exit_closing_left exit_closing_end exit_closing_report exit_unused exit_unused_report loop_with loop_at_once loop_at_once_left loop_at_once_end loop_at_once_report loop_closing loop_closing_left loop_closing_end loop_closing_report loop_twice loop_twice_left loop_twice_left_again loop_twice_end loop_twice_report writers writers_left writers_end writers_report scroll_with scroll scroll_left scroll_end scroll_leave scroll_leave_left scroll_leave_end scroll_leave_report three_hi three_hi_left second_lost three_hi_end three_hi_report hi_lost hi_lost_left head_lost hi_lost_end hi_lost_report hi_hurt hi_hurt_left byte_hurt hi_hurt_end hi_hurt_report mixed_descriptions mixed_processes mixed_ended mixed mixed_wounds mixed_revived calling
rows = tt

pub hi_first_run : (images : Images) → images.state (at_store 1 0 1) 5 1 ≡ hi_first_left → images.wounds (at_store 1 0 1) ≡ no_wounds hi_first_left
    → RunWith hi_first images (at_store 1 0 1 ∷ []) (((1, fate.Aborted) ∷ []) ∷ []) Done hi_first_end
unfolding rows passes
hi_first_run images state wounds = run_of hi_first images 4 3 hi_first_left (no_wounds hi_first_left) (record { trap = trap.Entry 1; line = panic_at 1 0 }) (at_store 1 0 1) Done
    refl refl state wounds
    (record { trap = refl; pid = refl; listed = refl; point = inl (refl, refl); broken = IsUndone refl; unstored = λ e. refl; over = λ e. absurd (cc e); lines = refl; undamaged = λ e. refl; unbroken = refl })
    refl refl refl

pub hi_leave_run : (images : Images) → images.state (at_leave 1 117 999999 1) 5 1 ≡ hi_leave_left → images.wounds (at_leave 1 117 999999 1) ≡ no_wounds hi_leave_left
    → RunWith hi_leave images (at_leave 1 117 999999 1 ∷ []) (((1, fate.Goes) ∷ []) ∷ []) Done hi_leave_end
unfolding rows passes
hi_leave_run images state wounds = run_of hi_leave images 4 3 hi_leave_left (no_wounds hi_leave_left) (record { trap = trap.Entry 1; line = panic_at 1 999999 }) (at_leave 1 117 999999 1) Done
    refl refl state wounds
    (record { trap = refl; pid = refl; listed = refl; point = inr (refl, omega arith, omega arith); broken = IsDone refl; unstored = λ e. absurd (cc e); over = λ e. refl; lines = refl; undamaged = λ e. refl; unbroken = refl })
    refl refl refl

pub hi_mid_run : (images : Images) → images.state (at_store 1 200 1) 5 1 ≡ hi_mid_left 2 → images.wounds (at_store 1 200 1) ≡ no_wounds (hi_mid_left 2)
    → RunWith hi_mid images (at_store 1 200 1 ∷ []) (((1, fate.Aborted) ∷ []) ∷ []) Done (hi_mid_end 2)
unfolding rows passes
hi_mid_run images state wounds = run_of hi_mid images 4 3 (hi_mid_left 2) (no_wounds (hi_mid_left 2)) (record { trap = trap.Entry 1; line = panic_at 1 200 }) (at_store 1 200 1) Done
    refl refl state wounds
    (record { trap = refl; pid = refl; listed = refl; point = inl (refl, refl); broken = IsPartlyPut 0 2 (omega arith) refl; unstored = λ e. absurd (cc e); over = λ e. absurd (cc e); lines = refl; undamaged = λ e. refl; unbroken = refl })
    refl refl refl

pub scroll_leave_run : (images : Images) → images.state (at_leave 1 300 999999 1) 5 1 ≡ scroll_leave_left → images.wounds (at_leave 1 300 999999 1) ≡ no_wounds scroll_leave_left
    → RunWith scroll_leave images (at_leave 1 300 999999 1 ∷ []) (((1, fate.Aborted) ∷ []) ∷ []) Done scroll_leave_end
unfolding rows passes
scroll_leave_run images state wounds = run_of scroll_leave images 4 3 scroll_leave_left (no_wounds scroll_leave_left) (record { trap = trap.Entry 1; line = panic_at 1 999999 }) (at_leave 1 300 999999 1) Done
    refl refl state wounds
    (record { trap = refl; pid = refl; listed = refl; point = inr (refl, omega arith, omega arith); broken = IsDone refl; unstored = λ e. absurd (cc e); over = λ e. refl; lines = refl; undamaged = λ e. refl; unbroken = refl })
    refl refl refl

pub exit_first_run : (images : Images) → images.state (at_store 1 0 1) 3 1 ≡ exit_first_left → images.wounds (at_store 1 0 1) ≡ no_wounds exit_first_left
    → RunWith exit_first images (at_store 1 0 1 ∷ []) (((1, fate.Stands) ∷ []) ∷ []) Done exit_first_end
unfolding rows passes
exit_first_run images state wounds = run_of exit_first images 2 1 exit_first_left (no_wounds exit_first_left) (record { trap = trap.Entry 1; line = panic_at 1 0 }) (at_store 1 0 1) Done
    refl refl state wounds
    (record { trap = refl; pid = refl; listed = refl; point = inl (refl, refl); broken = IsUndone refl; unstored = λ e. refl; over = λ e. absurd (cc e); lines = refl; undamaged = λ e. refl; unbroken = refl })
    refl refl refl

pub exit_leave_run : (images : Images) → images.state (at_leave 1 311 999999 1) 3 1 ≡ exit_leave_left → images.wounds (at_leave 1 311 999999 1) ≡ no_wounds exit_leave_left
    → RunWith exit_leave images (at_leave 1 311 999999 1 ∷ []) ([] ∷ []) Done exit_leave_end
unfolding rows passes
exit_leave_run images state wounds = run_of exit_leave images 2 0 exit_leave_left (no_wounds exit_leave_left) (record { trap = trap.Entry 1; line = panic_at 1 999999 }) (at_leave 1 311 999999 1) Done
    refl refl state wounds
    (record { trap = refl; pid = refl; listed = refl; point = inr (refl, omega arith, omega arith); broken = IsDone refl; unstored = λ e. absurd (cc e); over = λ e. refl; lines = refl; undamaged = λ e. refl; unbroken = refl })
    refl refl refl

pub exit_closing_run : (images : Images) → images.state (at_store 2 0 0) 3 2 ≡ exit_closing_left → images.wounds (at_store 2 0 0) ≡ no_wounds exit_closing_left
    → RunWith exit_closing images (at_store 2 0 0 ∷ []) ([] ∷ []) Done exit_closing_end
unfolding rows passes
exit_closing_run images state wounds = run_of exit_closing images 3 0 exit_closing_left (no_wounds exit_closing_left) (record { trap = trap.Closing None; line = panic_at 2 0 }) (at_store 2 0 0) Done
    refl refl state wounds
    (record { trap = refl; pid = refl; listed = refl; point = inl (refl, refl); broken = IsUndone refl; unstored = λ e. refl; over = λ e. absurd (cc e); lines = refl; undamaged = λ e. refl; unbroken = refl })
    refl refl refl

pub loop_closing_run : (images : Images) → images.state (at_store 1 0 1) 10 1 ≡ loop_closing_left → images.wounds (at_store 1 0 1) ≡ no_wounds loop_closing_left
    → RunWith loop_closing images (at_store 1 0 1 ∷ []) (((1, fate.Goes) ∷ []) ∷ []) Budget loop_closing_end
unfolding rows passes
loop_closing_run images state wounds = run_of loop_closing images 10 0 loop_closing_left (no_wounds loop_closing_left) (record { trap = trap.Closing (Some 1); line = panic_at 1 0 }) (at_store 1 0 1) Budget
    refl refl state wounds
    (record { trap = refl; pid = refl; listed = refl; point = inl (refl, refl); broken = IsUndone refl; unstored = λ e. refl; over = λ e. absurd (cc e); lines = refl; undamaged = λ e. refl; unbroken = refl })
    refl refl refl

pub writers_run : (images : Images) → images.state (at_store 6 0 3) 214 6 ≡ writers_left → images.wounds (at_store 6 0 3) ≡ no_wounds writers_left
    → RunWith writers images (at_store 6 0 3 ∷ []) (((1, fate.Aborted) ∷ (2, fate.Aborted) ∷ (3, fate.Goes) ∷ []) ∷ []) Budget writers_end
unfolding rows passes
writers_run images state wounds = run_of writers images 213 107 writers_left (no_wounds writers_left) (record { trap = trap.Slice 3; line = panic_at 6 0 }) (at_store 6 0 3) Budget
    refl refl state wounds
    (record { trap = refl; pid = refl; listed = refl; point = inl (refl, refl); broken = IsUndone refl; unstored = λ e. refl; over = λ e. absurd (cc e); lines = refl; undamaged = λ e. refl; unbroken = refl })
    refl refl refl

pub second_run : (images : Images) → images.state (damaged_at 1 0 1 second_damage) 5 1 ≡ three_hi_left → images.wounds (damaged_at 1 0 1 second_damage) ≡ second_lost
    → RunWith three_hi images (damaged_at 1 0 1 second_damage ∷ []) (((1, fate.Aborted) ∷ (2, fate.Lost 0) ∷ (3, fate.Goes) ∷ []) ∷ []) Done three_hi_end
unfolding rows passes
second_run images state wounds = run_of three_hi images 4 11 three_hi_left second_lost (record { trap = trap.Entry 1; line = damaging_at 1 0 second_damage }) (damaged_at 1 0 1 second_damage) Done
    refl refl state wounds
    (record { trap = refl; pid = refl; listed = refl; point = inl (refl, refl); broken = IsUndone refl; unstored = λ e. refl; over = λ e. absurd (cc e); lines = refl; undamaged = λ e. absurd (cc e); unbroken = refl })
    refl refl refl

pub head_run : (images : Images) → images.state (damaged_at 1 0 1 head_damage) 5 1 ≡ hi_lost_left → images.wounds (damaged_at 1 0 1 head_damage) ≡ head_lost
    → RunWith hi_lost images (damaged_at 1 0 1 head_damage ∷ []) (((1, fate.Lost 0) ∷ []) ∷ []) Done hi_lost_end
unfolding rows passes
head_run images state wounds = run_of hi_lost images 4 0 hi_lost_left head_lost (record { trap = trap.Entry 1; line = damaging_at 1 0 head_damage }) (damaged_at 1 0 1 head_damage) Done
    refl refl state wounds
    (record { trap = refl; pid = refl; listed = refl; point = inl (refl, refl); broken = IsUndone refl; unstored = λ e. refl; over = λ e. absurd (cc e); lines = refl; undamaged = λ e. absurd (cc e); unbroken = refl })
    refl refl refl

pub hurt_run : (images : Images) → images.state (damaged_at 1 0 1 byte_damage) 3 1 ≡ hi_hurt_left → images.wounds (damaged_at 1 0 1 byte_damage) ≡ byte_hurt
    → RunWith hi_hurt images (damaged_at 1 0 1 byte_damage ∷ []) (((1, fate.Goes) ∷ []) ∷ []) Done hi_hurt_end
unfolding rows passes
hurt_run images state wounds = run_of hi_hurt images 2 8 hi_hurt_left byte_hurt (record { trap = trap.Slice 1; line = damaging_at 1 0 byte_damage }) (damaged_at 1 0 1 byte_damage) Done
    refl refl state wounds
    (record { trap = refl; pid = refl; listed = refl; point = inl (refl, refl); broken = IsUndone refl; unstored = λ e. refl; over = λ e. absurd (cc e); lines = refl; undamaged = λ e. absurd (cc e); unbroken = refl })
    refl refl refl

pub loop_at_once_run : (images : Images) → images.state (at_store 1 0 0) 0 1 ≡ loop_at_once_left → images.wounds (at_store 1 0 0) ≡ no_wounds loop_at_once_left
    → RunWith loop_at_once images (at_store 1 0 0 ∷ []) (((1, fate.Goes) ∷ []) ∷ []) Budget loop_at_once_end
unfolding rows passes
loop_at_once_run images state wounds = run_of loop_at_once images 0 0 loop_at_once_left (no_wounds loop_at_once_left) (record { trap = trap.Closing None; line = panic_at 1 0 }) (at_store 1 0 0) Budget
    refl refl state wounds
    (record { trap = refl; pid = refl; listed = refl; point = inl (refl, refl); broken = IsUndone refl; unstored = λ e. refl; over = λ e. absurd (cc e); lines = refl; undamaged = λ e. refl; unbroken = refl })
    refl refl refl

pub exit_unused_run : (images : Images) → RunWith exit_unused images [] [] Done (closed (after exit_unused 3))
unfolding rows passes
exit_unused_run images = run_on exit_unused images (start_of exit_unused.load) 3 [] [] Done (closed (after exit_unused 3)) refl (Ends (after exit_unused 3) Done refl refl)

pub loop_twice_run : (images : Images) → images.state (at_store 1 0 1) 10 1 ≡ loop_twice_left → images.wounds (at_store 1 0 1) ≡ no_wounds loop_twice_left
    → images.state (at_store 2 0 0) 10 2 ≡ loop_twice_left_again → images.wounds (at_store 2 0 0) ≡ no_wounds loop_twice_left_again
    → RunWith loop_twice images (at_store 1 0 1 ∷ at_store 2 0 0 ∷ []) (((1, fate.Goes) ∷ []) ∷ ((1, fate.Goes) ∷ []) ∷ []) Budget loop_twice_end
unfolding rows passes
loop_twice_run images state wounds again more =
    run_on loop_twice images (start_of loop_twice.load) 10 (at_store 1 0 1 ∷ at_store 2 0 0 ∷ []) (((1, fate.Goes) ∷ []) ∷ ((1, fate.Goes) ∷ []) ∷ []) Budget loop_twice_end refl
    (run_over loop_twice images (after loop_twice 10) loop_twice_left (no_wounds loop_twice_left) (record { trap = trap.Closing (Some 1); line = panic_at 1 0 }) (at_store 1 0 1)
    (at_store 2 0 0 ∷ []) (((1, fate.Goes) ∷ []) ∷ []) Budget loop_twice_end refl state wounds
    (record { trap = refl; pid = refl; listed = refl; point = inl (refl, refl); broken = IsUndone refl; unstored = λ e. refl; over = λ e. absurd (cc e); lines = refl; undamaged = λ e. refl; unbroken = refl })
    (run_over loop_twice images (revived loop_twice_left) loop_twice_left_again (no_wounds loop_twice_left_again) (record { trap = trap.Closing None; line = panic_at 2 0 }) (at_store 2 0 0)
    [] [] Budget loop_twice_end refl again more
    (record { trap = refl; pid = refl; listed = refl; point = inl (refl, refl); broken = IsUndone refl; unstored = λ e. refl; over = λ e. absurd (cc e); lines = refl; undamaged = λ e. refl; unbroken = refl })
    (Ends (revived loop_twice_left_again) Budget refl refl)))
