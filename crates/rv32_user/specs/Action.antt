-- What an instruction tells the processor to do, as the program holds it.
use Rattle.ow_base.specs.UserStep.{Act, Sets, Jumps, Branches, Loads, Stores, Nothing, Calls, Breaks}
use Rattle.rv32_user.specs.declared.action.Action.{Action}
use Rattle.rv32_user.specs.declared.action.Action.TheVariants.{Set, Jump, Branch, Load, Store, Fence, Call, Break}

-- the same as the definitions of a step have it
abbrev pub act_value : Action → Act
act_value (Set rd value) = Sets rd value
act_value (Jump rd target) = Jumps rd target
act_value (Branch taken target) = Branches taken target
act_value (Load l) = Loads l.width l.signed l.rd l.address
act_value (Store s) = Stores s.width s.address s.value
act_value Fence = Nothing
act_value Call = Calls
act_value Break = Breaks
