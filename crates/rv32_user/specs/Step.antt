-- How a step ends, as the program answers it.
use Rattle.std.specs.Prelude.{ℕ, List}
use Rattle.ow_base.specs.UserStep.{Stepped, Next, Call, Faulted}
use Rattle.rv32_user.specs.declared.stepping.StepEnd.{StepEnd}
use Rattle.rv32_user.specs.declared.stepping.StepEnd.TheVariants.{Next as EndNext, Call as EndCall, Fault as EndFault}

-- what a step came to: its end, with the registers, pc and image after it
abbrev pub ends : {Image : Type 0} → StepEnd → (regs : List ℕ) → (pc : ℕ) → Image → Stepped Image
ends EndNext regs pc image = Next regs pc image
ends EndCall regs pc image = Call
ends (EndFault fault) regs pc image = Faulted fault

-- a fact for a step that ended in a call or a fault
abbrev pub UnlessNext : StepEnd → Type 0 → Type 0
UnlessNext EndNext P = Unit {0}
UnlessNext EndCall P = P
UnlessNext (EndFault fault) P = P
