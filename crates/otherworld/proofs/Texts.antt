-- Which texts are run, and which are refused.
use Rattle.std.proofs.Common.{◌≡◌, ℕ, ◌⊎◌, inl, inr, true, refl, sym, subst, List, Option, Some}
use Rattle.ow_base.specs.Outside.{Rose}
use Rattle.ow_base.specs.World.{IsWorld}
use Rattle.ow_base.specs.declared.worlds.World.{World}
use Rattle.ow_base.specs.declared.worlds.Ending.{Ending}
use Rattle.ow_base.specs.declared.worlds.Ending.TheVariants as ending
use Rattle.ow_plant.specs.State.{PlantState}
use Rattle.world_file.specs.declared.why.Why.{Why}
use Rattle.world_file.specs.WorldRefusals.{IsBuilt, IsRefused}
use Rattle.world_file.proofs.WorldLaws.{built_is_not_refused}
use Rattle.world_file.proofs.WorldRefused.{one_refusal_of}
use Rattle.otherworld.specs.declared.top.Status.{Status}
use Rattle.otherworld.specs.declared.top.Status.TheVariants.{Done, Usage, BadWorld, ReadFault, WriteFault, Memory, Budget, Restarted}
use Rattle.otherworld.specs.Top.{Intends, IsSaid, IsRun, MayAnswer, IsCalm, status_of}

-- a text that is of a world of the built forms
abbrev pub Spells : (input : List ℕ) → Type 0
Spells input = (world : World) × IsWorld input world × IsBuilt world

not_write : (e : Ending) → status_of e ≡ WriteFault → ⊥
not_write ending.Done h = absurd (cc h)
not_write ending.Budget h = absurd (cc h)
not_write ending.Restarted h = absurd (cc h)

module _ (input : List ℕ) (left : Option (List ℕ)) (rose : Type 0) (old new : PlantState) where
  spelled : (e : Ending) (text : List ℕ) → IsRun (Some input) left new e text → Spells input
  spelled e text run = (run.0, subst (λ bytes. IsWorld bytes run.0) run.1.told.0 run.1.value, run.1.built)

  ran_by : (e : Ending) (text : List ℕ) → Intends true (Some input) left rose old new (status_of e) text → Spells input
  ran_by ending.Done text is = spelled ending.Done text is.1
  ran_by ending.Budget text is = spelled ending.Budget text is.1
  ran_by ending.Restarted text is = spelled ending.Restarted text is.1

  ran_said : (status : Status) (text : List ℕ) (write_rose : Type 0) (written all : Option (List ℕ)) (e : Ending) → Intends true (Some input) left rose old new status text
      → IsSaid text status write_rose written all (status_of e) → Spells input
  ran_said status text write_rose written all e is (inl said) = ran_by e text (subst (λ s. Intends true (Some input) left rose old new s text) (sym said.0) is)
  ran_said status text write_rose written all e is (inr said) = absurd (not_write e said.0)

  refused_said : (status : Status) (text : List ℕ) (write_rose : Type 0) (written all : Option (List ℕ)) (number : ℕ) (why : Why) → Intends true (Some input) left rose old new status text
      → IsSaid text status write_rose written all (BadWorld number why) → IsRefused input number why
  refused_said status text write_rose written all number why is (inl said) =
      let meant : Intends true (Some input) left rose old new (BadWorld number why) text = subst (λ s. Intends true (Some input) left rose old new s text) (sym said.0) is in
      meant.1.0
  refused_said status text write_rose written all number why is (inr said) = absurd (cc said.0)

  -- what is meant where no read failed
  runs_by : (world : World) → IsWorld input world → IsBuilt world → (rose → ⊥) → (status : Status) (text : List ℕ) → Intends true (Some input) left rose old new status text
      → ((e : Ending) × (status ≡ status_of e)) ⊎ (status ≡ Memory)
  runs_by world is built calm Usage text means = absurd (cc means.0)
  runs_by world is built calm (BadWorld number why) text means = absurd (built_is_not_refused input world number why is built means.1.0)
  runs_by world is built calm ReadFault text means = absurd (calm means.1)
  runs_by world is built calm WriteFault text means = absurd means
  runs_by world is built calm Memory text means = inr refl
  runs_by world is built calm Done text means = inl (ending.Done, refl)
  runs_by world is built calm Budget text means = inl (ending.Budget, refl)
  runs_by world is built calm Restarted text means = inl (ending.Restarted, refl)

  not_refused : (number : ℕ) (why : Why) → IsRefused input number why → Spells input → ⊥
  not_refused number why refused is = built_is_not_refused input is.0 number why is.1 is.2 refused

  refuses_by : (number : ℕ) (why : Why) → IsRefused input number why → (rose → ⊥) → (status : Status) (text : List ℕ) → Intends true (Some input) left rose old new status text
      → (status ≡ BadWorld number why) ⊎ (status ≡ Memory)
  refuses_by number why refused calm Usage text means = absurd (cc means.0)
  refuses_by number why refused calm (BadWorld line other) text means =
      let same = one_refusal_of input line number other why means.1.0 refused in
      inl (cc (same.0, same.1))
  refuses_by number why refused calm ReadFault text means = absurd (calm means.1)
  refuses_by number why refused calm WriteFault text means = absurd means
  refuses_by number why refused calm Memory text means = inr refl
  refuses_by number why refused calm Done text means = absurd (not_refused number why refused (spelled ending.Done text means.1))
  refuses_by number why refused calm Budget text means = absurd (not_refused number why refused (spelled ending.Budget text means.1))
  refuses_by number why refused calm Restarted text means = absurd (not_refused number why refused (spelled ending.Restarted text means.1))

-- where the sink does not fail, the answer is the status that is meant
given : (text : List ℕ) (status answer : Status) (rose : Type 0) (written all : Option (List ℕ)) → (rose → ⊥) → IsSaid text status rose written all answer → answer ≡ status
given text status answer rose written all calm (inl said) = said.0
given text status answer rose written all calm (inr said) = absurd (calm said.1)

pub ran_text : (input : List ℕ) (e : Ending) → MayAnswer input (status_of e) → Spells input
ran_text input e may =
    let is = may.answers in
    ran_said input may.left (Rose may.reads may.more_reads) may.old may.new is.0 is.1 (Rose may.writes may.more_writes) may.written may.all e is.2 is.3

pub refused_text : (input : List ℕ) (number : ℕ) (why : Why) → MayAnswer input (BadWorld number why) → IsRefused input number why
refused_text input number why may =
    let is = may.answers in
    refused_said input may.left (Rose may.reads may.more_reads) may.old may.new is.0 is.1 (Rose may.writes may.more_writes) may.written may.all number why is.2 is.3

pub text_runs : (input : List ℕ) (world : World) (answer : Status) (may : MayAnswer input answer) → IsCalm may → IsWorld input world → IsBuilt world
    → ((e : Ending) × (answer ≡ status_of e)) ⊎ (answer ≡ Memory)
text_runs input world answer may calm is built =
    let a = may.answers in
    let same = given a.1 a.0 answer (Rose may.writes may.more_writes) may.written may.all calm.1 a.3 in
    subst (λ s. ((e : Ending) × (s ≡ status_of e)) ⊎ (s ≡ Memory)) (sym same)
    (runs_by input may.left (Rose may.reads may.more_reads) may.old may.new world is built calm.0 a.0 a.1 a.2)

pub text_refuses : (input : List ℕ) (number : ℕ) (why : Why) (answer : Status) (may : MayAnswer input answer) → IsCalm may → IsRefused input number why
    → (answer ≡ BadWorld number why) ⊎ (answer ≡ Memory)
text_refuses input number why answer may calm refused =
    let a = may.answers in
    let same = given a.1 a.0 answer (Rose may.writes may.more_writes) may.written may.all calm.1 a.3 in
    subst (λ s. (s ≡ BadWorld number why) ⊎ (s ≡ Memory)) (sym same)
    (refuses_by input may.left (Rose may.reads may.more_reads) may.old may.new number why refused calm.0 a.0 a.1 a.2)
