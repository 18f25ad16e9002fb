-- Where the processor is, and what the processes keep where records are set.
use Rattle.std.specs.Prelude.{◌≡◌, ℕ, ◌⊎◌, List, None}
use Rattle.record_layouts.specs.declared.patch.PatchItem.{PatchItem}
use Rattle.record_layouts.specs.declared.proc.ProcRec.{ProcRec}
use Rattle.record_layouts.specs.Decode.{Context, InKernel, InUser}
use Rattle.record_layouts.specs.Held.{Records, with_items}
use Rattle.record_layouts.specs.Pages.{live_one}
use Rattle.record_layouts.specs.Sound.{IsIn}

-- it is in the kernel, or in this process
abbrev pub IsOf : Context → (pid : ℕ) → Type 0
IsOf InKernel pid = Unit {0}
IsOf (InUser user count bank) pid = user ≡ pid

-- a process had its descriptors before: they are those of a process that was live, in this slot or, where no process was
-- live in it, in another one
pub record HadDescriptors (r : Records) (slot : ℕ) (process : ProcRec) : Type 0 where
  pub place : ℕ
  pub before : ProcRec
  pub is : IsIn r place before
  pub descs : process.descs ≡ before.descs
  pub seat : (place ≡ slot) ⊎ (live_one (r.procs slot) ≡ None)

-- where items are set, descriptions stay, and who is live then has the descriptors that he, or his parent, had before
pub record KeepDescriptors (r : Records) (items : List PatchItem) : Type 0 where
  pub descs : (with_items r items).descs ≡ r.descs
  pub was : (slot : ℕ) (process : ProcRec) → IsIn (with_items r items) slot process → HadDescriptors r slot process
