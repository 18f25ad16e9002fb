-- What a new kernel begins with after a panic.
use Rattle.std.specs.Prelude.{ℕ, zero, suc, ◌+◌, ◌-◌, ◌/◌, ◌%◌, ◌^◌, Bool, false, nat_lt, ◌==◌, ◌&&◌, if◌then◌else◌, List, [], ◌∷◌, take, slice_index, Option, Some, None, is_some}
use Rattle.ow_base.specs.Sv32.{WordMap, word_or_zero}
use Rattle.ow_base.specs.declared.machine.Rights.{Rights}
use Rattle.record_layouts.specs.declared.head.HeadRec.{HeadRec}
use Rattle.record_layouts.specs.declared.proc.ProcRec.{ProcRec}
use Rattle.record_layouts.specs.declared.sig.SigRec.{SigRec}
use Rattle.record_layouts.specs.declared.desc.DescRec.{DescRec}
use Rattle.record_layouts.specs.declared.term.TermRec.{TermRec}
use Rattle.record_layouts.specs.declared.row.RowRec.{RowRec}
use Rattle.record_layouts.specs.declared.exit.ExitRec.{ExitRec}
use Rattle.record_layouts.specs.declared.places.RecordId.{RecordId}
use Rattle.record_layouts.specs.declared.places.RecordId.TheVariants as id
use Rattle.record_layouts.specs.declared.patch.AnyRec.{AnyRec}
use Rattle.record_layouts.specs.declared.patch.AnyRec.TheVariants as any
use Rattle.record_layouts.specs.Held.{Records}
use Rattle.record_layouts.specs.Left.{HandedOver}
use Rattle.record_layouts.specs.Pages.{frame_of, region_of}
use Rattle.record_layouts.specs.Sound.{is_used}
use Rattle.ow_plant.specs.Dead.{DeadState}
use Rattle.dead_reader.specs.Left.{handed_of, records_left}
use Rattle.dead_reader.specs.Terminals.{terminal_decodes}
use Rattle.kernel_builder.specs.declared.blueprint.Placed.{Placed}
use Rattle.kernel_builder.specs.declared.blueprint.Holder.{Holder}
use Rattle.kernel_builder.specs.Blank.{blank_row_record, empty_entry, free_process, no_signals, unused_description, unused_file}
use Rattle.kernel_builder.specs.Plan.{Plan}
use Rattle.resurrector.specs.Survivors.{fate_of, fates_to, goes_on, is_named, survivor_in}
use Rattle.record_layouts.specs.declared.fates.Fate.{Fate}
use Rattle.record_layouts.specs.declared.fates.Fate.TheVariants as fate

-- The head. The trap that broke counts as served, and the process of that trap, if it had one, was the last. Without the
-- head of before no process goes on, and the next pid is one more than the greatest that was given away.
abbrev pub served_by : Option HandedOver → (served : ℕ) → ℕ
served_by (Some h) served = h.trap
served_by None served = served

abbrev pub last_by : Option HandedOver → (last : ℕ) → ℕ
last_by (Some h) last = if h.pid == 0 then last else h.pid
last_by None last = last

unfoldable pub next_behind : Records → (last : ℕ) → ℕ
next_behind r zero = 1
next_behind r (suc pid) = if is_used (r.exits (suc pid)) then suc pid + 1 else next_behind r pid

abbrev pub head_by : Records → Option HandedOver → Option HeadRec → HeadRec
head_by r handed (Some head) = record head { served = served_by handed head.served; last = last_by handed head.last }
head_by r handed None = record { layout = 1; served = served_by handed 0; last = 0; next = next_behind r 256; hand = 0 }

unfoldable pub revived_head : Records → Option HandedOver → HeadRec
revived_head r handed = head_by r handed r.head

-- a slot keeps the record of a process that ended while its parent goes on, as the parent can wait for it
abbrev pub ended_or_free : Records → Option HandedOver → Option ProcRec → ProcRec
ended_or_free r handed (Some process) = if process.state == 3 && goes_on r handed process.parent then process else free_process
ended_or_free r handed None = free_process

abbrev pub process_by : Records → Option HandedOver → (slot : ℕ) → Option ProcRec → ProcRec
process_by r handed slot (Some process) = process
process_by r handed slot None = ended_or_free r handed (r.procs slot)

unfoldable pub revived_process : Records → Option HandedOver → (slot : ℕ) → ProcRec
revived_process r handed slot = process_by r handed slot (survivor_in r handed slot)

-- signals that do not decode are none
abbrev pub signals_or_none : (pid : ℕ) → Option SigRec → SigRec
signals_or_none pid (Some signals) = signals
signals_or_none pid None = no_signals pid

abbrev pub signals_by : Records → (slot : ℕ) → Option ProcRec → SigRec
signals_by r slot (Some process) = signals_or_none process.pid (r.sigs slot)
signals_by r slot None = no_signals 0

unfoldable pub revived_signals : Records → Option HandedOver → (slot : ℕ) → SigRec
revived_signals r handed slot = signals_by r slot (survivor_in r handed slot)

-- a description stays while a process that goes on has a descriptor of it
abbrev pub description_or_none : Option DescRec → DescRec
description_or_none (Some description) = description
description_or_none None = unused_description

unfoldable pub revived_description : Records → Option HandedOver → (index : ℕ) → DescRec
revived_description r handed index = if is_named r handed (index + 1) then description_or_none (r.descs index) else unused_description

-- a terminal that does not decode is reset: it shows nothing, and its screen counts from the end of what its device has
abbrev pub reset_terminal : (tty count : ℕ) → TermRec
reset_terminal tty count = record { tty = tty; written = count; last = 0; consumed = 0; top = 0; row = 0; col = 0; base = count }

abbrev pub terminal_or_reset : (tty count : ℕ) → Option TermRec → TermRec
terminal_or_reset tty count (Some terminal) = terminal
terminal_or_reset tty count None = reset_terminal tty count

unfoldable pub revived_terminal : Records → (counts : List ℕ) → (tty : ℕ) → TermRec
revived_terminal r counts tty =
    if terminal_decodes r tty then terminal_or_reset tty (slice_index counts tty) (r.terms tty)
    else reset_terminal tty (slice_index counts tty)

abbrev pub row_or_blank : (place : ℕ) → Option RowRec → RowRec
row_or_blank place (Some row) = row
row_or_blank place None = blank_row_record place

unfoldable pub revived_row : Records → (place : ℕ) → RowRec
revived_row r place = if terminal_decodes r (place / 24) then row_or_blank place (r.rows place) else blank_row_record place

-- a pid that was live is so still, or it has ended with what it lost
abbrev pub exit_with : ExitRec → Fate → ExitRec
exit_with exit (fate.Lost bits) = record { state = 2; value = 0x300 + bits }
exit_with exit fate.Goes = exit
exit_with exit fate.Aborted = exit
exit_with exit fate.Stands = exit
exit_with exit (fate.Procedure mask) = exit

abbrev pub fate_or_lost : Option Fate → Fate
fate_or_lost (Some told) = told
fate_or_lost None = fate.Lost 0

abbrev pub exit_by : Records → Option HandedOver → (pid : ℕ) → Option ExitRec → ExitRec
exit_by r handed pid (Some exit) = if exit.state == 1 then exit_with exit (fate_or_lost (fate_of r handed pid)) else exit
exit_by r handed pid None = record { state = 0; value = 0 }

unfoldable pub revived_exit : Records → Option HandedOver → (pid : ℕ) → ExitRec
revived_exit r handed pid = exit_by r handed pid (r.exits pid)

-- the record with which a new kernel begins, by its id; there are no files yet
abbrev pub revived_record : Records → Option HandedOver → (counts : List ℕ) → RecordId → AnyRec
revived_record r handed counts id.Head = any.Head (revived_head r handed)
revived_record r handed counts (id.Proc slot) = any.Proc (revived_process r handed slot)
revived_record r handed counts (id.Sig slot) = any.Sig (revived_signals r handed slot)
revived_record r handed counts (id.Desc index) = any.Desc (revived_description r handed index)
revived_record r handed counts (id.File index) = any.File unused_file
revived_record r handed counts (id.Cache index) = any.Cache empty_entry
revived_record r handed counts (id.Term tty) = any.Term (revived_terminal r counts tty)
revived_record r handed counts (id.Row place) = any.Row (revived_row r place)
revived_record r handed counts (id.Exit pid) = any.Exit (revived_exit r handed pid)

-- a page of a process that goes on keeps its number among the user frames
abbrev pub placed_by : Records → Option ℕ → Option Rights → Option Placed
placed_by r (Some frame) (Some rights) = Some (record { frame = frame - r.map.pool_base; rights = rights })
placed_by r (Some frame) None = None
placed_by r None rights = None

abbrev pub page_by : Records → (slot page : ℕ) → Option ProcRec → Option Placed
page_by r slot page (Some process) = placed_by r (frame_of r slot process page) (region_of process page)
page_by r slot page None = None

unfoldable pub revived_page : Records → Option HandedOver → (slot page : ℕ) → Option Placed
revived_page r handed slot page = page_by r slot page (survivor_in r handed slot)

-- so a user frame holds the page that its owner word names, where this page is in it
abbrev pub is_placed_in : (frame : ℕ) → Option Placed → Bool
is_placed_in frame (Some placed) = placed.frame == frame
is_placed_in frame None = false

abbrev pub holder_if : Records → Option HandedOver → (frame slot page : ℕ) → Option Holder
holder_if r handed frame slot page =
    if nat_lt slot 16 && nat_lt page (2 ^ 19) && is_placed_in frame (revived_page r handed slot page)
    then Some (record { slot = slot; page = page }) else None

unfoldable pub revived_holder : Records → Option HandedOver → (frame : ℕ) → Option Holder
revived_holder r handed frame =
    if nat_lt (r.owners frame) (2 ^ 20) then None else holder_if r handed frame (r.owners frame / 2 ^ 20 - 1) (r.owners frame % 2 ^ 20)

-- and has the words that it had
abbrev pub word_by : Records → WordMap → (word : ℕ) → Option Placed → ℕ
word_by r words word (Some placed) = word_or_zero (words (r.map.pool_base + placed.frame) word)
word_by r words word None = 0

abbrev pub revived_plan : Records → Option HandedOver → (counts : List ℕ) → WordMap → Plan
revived_plan r handed counts words = record {
  record_of = revived_record r handed counts;
  is_live = λ slot. is_some (survivor_in r handed slot);
  page_at = revived_page r handed;
  holder = revived_holder r handed;
  word_at = λ slot page word. word_by r words word (revived_page r handed slot page);
}

-- that of what a kernel has left, and the fates of its processes
abbrev pub plan_of : DeadState → WordMap → Plan
plan_of dead words =
    revived_plan (records_left dead words) (handed_of dead.handover) (dead.counts 0 ∷ dead.counts 1 ∷ []) words

abbrev pub fates_left : DeadState → WordMap → List (ℕ × Fate)
fates_left dead words = take 16 (fates_to (records_left dead words) (handed_of dead.handover) 256)
