-- The status word of a process that faults.
use Rattle.std.proofs.Common.{◌≡◌, ℕ, ◌+◌, ◌≤◌, Bool, true, false, if◌then◌else◌, List, Option, Some, None, Result, Ok, Err, inl, inr, subst, arith}
use Rattle.ow_base.specs.Pages.{Pages, fetched_from, loaded_from, page_space, rights_at, stored_in}
use Rattle.ow_base.specs.UserStep.{Act, Sets, Jumps, Branches, Loads, Stores, Nothing, Calls, Breaks, Illegal, Stepped, Next, Call, Faulted, act_of, acted, after_fetch, after_load, after_store, gone_to, is_aligned, size_of, user_step}
use Rattle.ow_base.specs.declared.machine.Fault.{Fault}
use Rattle.ow_base.specs.declared.machine.Rights.{Rights}
use Rattle.ow_base.specs.declared.machine.Rights.TheVariants.{Code, Values}
use Rattle.ow_base.specs.declared.machine.Width.{Width}
use Rattle.record_layouts.specs.Spelling.{IsStatus}
use Rattle.record_layouts.specs.Unix.Turn.{step_of}
use Rattle.record_layouts.specs.Unix.State.{Process}

-- the cause of a fault is one of the first sixteen
abbrev HasCause : Stepped Pages → Type 0
HasCause (Faulted fault) = fault.cause ≤ 15
HasCause (Next regs pc pages) = Unit {0}
HasCause Call = Unit {0}

abbrev Answers : {A : Type 0} → Result A Fault → Type 0
Answers (Ok value) = Unit {0}
Answers (Err fault) = fault.cause ≤ 15

either : (test : Bool) (x y : Stepped Pages) → HasCause x → HasCause y → HasCause (if test then x else y)
either true x y p q = p
either false x y p q = q

fetched : (bytes : ℕ → ℕ) (address : ℕ) (rights : Option Rights) → Answers (fetched_from bytes address rights)
fetched bytes address (Some Code) = tt
fetched bytes address (Some Values) = omega arith
fetched bytes address None = omega arith

loaded : (bytes : ℕ → ℕ) (address : ℕ) (width : Width) (rights : Option Rights) → Answers (loaded_from bytes address width rights)
loaded bytes address width (Some rights) = tt
loaded bytes address width None = omega arith

stored : (pages : Pages) (address : ℕ) (width : Width) (value : ℕ) (rights : Option Rights) → Answers (stored_in pages address width value rights)
stored pages address width value (Some Values) = tt
stored pages address width value (Some Code) = omega arith
stored pages address width value None = omega arith

goes : (regs : List ℕ) (target : ℕ) (pages : Pages) → HasCause (gone_to regs target pages)
unfolding gone_to
goes regs target pages = either (is_aligned target 4) _ _ tt (omega arith)

loads : (regs : List ℕ) (pc rd : ℕ) (width : Width) (signed : Bool) (pages : Pages) (answer : Result ℕ Fault) → Answers answer
    → HasCause (after_load regs pc rd width signed pages answer)
unfolding after_load
loads regs pc rd width signed pages (Ok value) is = tt
loads regs pc rd width signed pages (Err fault) is = is

stores : (regs : List ℕ) (pc : ℕ) (answer : Result Pages Fault) → Answers answer → HasCause (after_store regs pc answer)
unfolding after_store
stores regs pc (Ok pages) is = tt
stores regs pc (Err fault) is = is

acts : (word : ℕ) (regs : List ℕ) (pc : ℕ) (pages : Pages) (act : Act) → HasCause (acted page_space word regs pc pages act)
unfolding acted page_space
acts word regs pc pages (Sets rd value) = tt
acts word regs pc pages (Jumps rd target) = goes _ target pages
acts word regs pc pages (Branches taken target) = either taken _ _ (goes regs target pages) tt
acts word regs pc pages (Loads width signed rd address) =
    either (is_aligned address (size_of width)) _ _ (loads regs pc rd width signed pages _ (loaded pages.bytes address width (rights_at pages address))) (omega arith)
acts word regs pc pages (Stores width address value) =
    either (is_aligned address (size_of width)) _ _ (stores regs pc _ (stored pages address width value (rights_at pages address))) (omega arith)
acts word regs pc pages Nothing = tt
acts word regs pc pages Calls = tt
acts word regs pc pages Breaks = omega arith
acts word regs pc pages Illegal = omega arith

fetches : (regs : List ℕ) (pc : ℕ) (pages : Pages) (answer : Result ℕ Fault) → Answers answer → HasCause (after_fetch page_space regs pc pages answer)
unfolding after_fetch
fetches regs pc pages (Ok word) is = acts word regs pc pages (act_of word regs pc)
fetches regs pc pages (Err fault) is = is

steps : (regs : List ℕ) (pc : ℕ) (pages : Pages) → HasCause (user_step page_space regs pc pages)
unfolding user_step page_space
steps regs pc pages = either (is_aligned pc 4) _ _ (fetches regs pc pages _ (fetched pages.bytes pc (rights_at pages pc))) (omega arith)

-- 0x200 and the cause of a fault is a status word
pub fault_status : (process : Process) (fault : Fault) → step_of process ≡ Faulted fault → IsStatus (0x200 + fault.cause)
unfolding step_of
fault_status process fault e =
    let few : fault.cause ≤ 15 = subst HasCause e (steps process.bank.regs process.bank.pc process.pages) in
    inr (inr (inl (omega arith, omega arith)))
