-- What is read of a kernel that was built after a panic, and what its terminals have written once the bytes in flight are put.
use Rattle.std.specs.Prelude.{◌≡◌, ℕ, ◌+◌, ◌<◌, true, false, List, Option, Some, None, is_some}
use Rattle.ow_base.specs.Images.{Image}
use Rattle.ow_base.specs.Sv32.{WordMap}
use Rattle.ow_plant.specs.Dead.{DeadState}
use Rattle.record_layouts.specs.declared.places.RecordId.{RecordId}
use Rattle.record_layouts.specs.At.{at, fitted}
use Rattle.record_layouts.specs.Decode.{terminal_by}
use Rattle.record_layouts.specs.Held.{Records}
use Rattle.record_layouts.specs.Left.{HandedOver}
use Rattle.record_layouts.specs.Places.{IsRecordId, is_id}
use Rattle.kernel_builder.specs.declared.blueprint.Holder.{Holder}
use Rattle.kernel_builder.specs.Plan.{claim_by, entry_word}
use Rattle.resurrector.specs.Revived.{revived_holder, revived_page, revived_plan, revived_record, word_by}
use Rattle.resurrector.specs.Survivors.{survivor_in}

-- There are as many user frames as before. The new records are those of the plan, with the owners of the user frames and the
-- tables of each slot whose process goes on; and a user frame that holds a page has the words that this page had.
pub record IsRevived (r : Records) (handed : Option HandedOver) (counts : List ℕ) (words : WordMap) (next : Records) (next_words : WordMap) : Type 0 where
  pub frames : next.map.user_frames ≡ r.map.user_frames
  pub records : (one : RecordId) → IsRecordId one → at next one ≡ fitted one (revived_record r handed counts one)
  pub others : (one : RecordId) → is_id one ≡ false → at next one ≡ None
  pub owners : (frame : ℕ) → frame < r.map.user_frames → next.owners frame ≡ claim_by (revived_holder r handed frame)
  pub tables : (slot table word : ℕ) → slot < 16 → table < 3 → word < 1024 → is_some (survivor_in r handed slot) ≡ true
      → next.table_words slot table word ≡ entry_word next.map (revived_plan r handed counts words) slot table word
  pub contents : (frame word : ℕ) (holder : Holder) → frame < r.map.user_frames → word < 1024 → revived_holder r handed frame ≡ Some holder
      → next_words (next.map.pool_base + frame) word ≡ Some (word_by r words word (revived_page r handed holder.slot holder.page))

-- the tapes of the devices, with the byte in flight where a terminal counts one
abbrev pub tapes_put : Records → (tapes : ℕ → List ℕ) → (tty : ℕ) → List ℕ
tapes_put r tapes tty = (terminal_by (tapes tty) (r.terms tty)).tape

-- the image that is left, with the tapes of the devices
abbrev pub image_left : DeadState → WordMap → (tapes : ℕ → List ℕ) → Image
image_left dead words tapes = record { words = words; area = dead.area; user_frames = dead.user_frames; sectors = dead.sectors; tapes = tapes }
