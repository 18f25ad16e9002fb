-- Which processes can be next, while the slots are gone through.
use Rattle.std.proofs.Common.{◌≡◌, ◌⊎◌, ℕ, ◌+◌, ◌<◌, ◌≤◌, true, false, nat_lt, Option, Some, None, IfSome, IfNone, inl, inr, sym, ap, ◌∙◌, subst, arith}
use Rattle.std.proofs.lemmas.Bool.{cases_lt, false≢true}
use Rattle.std.proofs.lemmas.Bool.Decides.{nat_tests}
use Rattle.ow_base.specs.declared.machine.Now.{Now}
use Rattle.record_layouts.specs.declared.proc.ProcRec.{ProcRec}
use Rattle.record_layouts.specs.Held.{Records}
use Rattle.process_table.specs.Choosing.{is_ready, is_ready_one, pid_by}
use Rattle.process_table.specs.declared.choice.Ready.{Ready}

-- among the slots before this one, the ready one with the least pid
pub record IsLeastBefore (r : Records) (now : Now) (above end : ℕ) (held : Ready) : Type 0 where
  pub within : held.slot < end
  pub ready : is_ready r now above held.slot ≡ true
  pub pid : pid_by (r.procs held.slot) ≡ held.pid
  pub least : (other : ℕ) → other < end → is_ready r now above other ≡ true → held.pid ≤ pid_by (r.procs other)

-- it is held, and none where none is ready
pub record IsHeld (r : Records) (now : Now) (above end : ℕ) (held : Option Ready) : Type 0 where
  pub some : IfSome held (IsLeastBefore r now above end)
  pub none : IfNone held ((k : ℕ) → k < end → is_ready r now above k ≡ false)

pub held_first : (r : Records) (now : Now) (above : ℕ) → IsHeld r now above 0 None
held_first r now above = record { some = tt; none = λ k below. absurd (omega (arith, below)) }

module _ (r : Records) (now : Now) (above end : ℕ) where
  -- a slot that is not ready
  pub held_same : (held : Option Ready) → IsHeld r now above end held → is_ready r now above end ≡ false → IsHeld r now above (end + 1) held
  held_same None is not_ready = record {
    some = tt;
    none = λ k below. elim (cases_lt k end) [
      | inl before ↦ is.none k (omega (arith, before))
      | inr last ↦ subst (λ (n : ℕ). is_ready r now above n ≡ false) (omega arith) not_ready
    ];
  }
  held_same (Some held) is not_ready = record {
    some = record {
      within = omega (arith, is.some.within);
      ready = is.some.ready;
      pid = is.some.pid;
      least = λ other below ready. elim (cases_lt other end) [
        | inl before ↦ is.some.least other before ready
        | inr last ↦ let e : end ≡ other = omega arith in absurd (false≢true (sym (subst (λ (n : ℕ). is_ready r now above n ≡ false) e not_ready) ∙ ready))
      ];
    };
    none = tt;
  }

  least_of_all : (held : Option Ready) (one : Ready) → IsHeld r now above end held → one.slot ≡ end → pid_by (r.procs end) ≡ one.pid → (pid : ℕ) → pid ≤ one.pid → IfSome held (λ other. pid ≤ other.pid)
      → (other : ℕ) → other < end + 1 → is_ready r now above other ≡ true → pid ≤ pid_by (r.procs other)
  least_of_all None one is there of pid low lower other below ready = elim (cases_lt other end) [
    | inl before ↦ absurd (false≢true (sym (is.none other before) ∙ ready))
    | inr last ↦ let e : end ≡ other = omega arith in let same = ap (λ (n : ℕ). pid_by (r.procs n)) e in omega (arith, same, of)
  ]
  least_of_all (Some held) one is there of pid low lower other below ready = elim (cases_lt other end) [
    | inl before ↦ let least = is.some.least other before ready in omega (arith, least, lower)
    | inr last ↦ let e : end ≡ other = omega arith in let same = ap (λ (n : ℕ). pid_by (r.procs n)) e in omega (arith, same, of)
  ]

  -- a slot that is ready
  pub held_lesser : (held : Option Ready) (one next : Ready) → IsHeld r now above end held → one.slot ≡ end → is_ready r now above end ≡ true → pid_by (r.procs end) ≡ one.pid
      → (next ≡ one) ⊎ (held ≡ Some next) → next.pid ≤ one.pid → IfSome held (λ other. next.pid ≤ other.pid) → IsHeld r now above (end + 1) (Some next)
  held_lesser held one next is there ready of (inl e) low lower = record {
    some = record {
      within = rw (e, there) (omega arith);
      ready = rw (e, there) ready;
      pid = rw (e, there) of;
      least = least_of_all held one is there of next.pid low lower;
    };
    none = tt;
  }
  held_lesser held one next is there ready of (inr e) low lower =
      let before : IsHeld r now above end (Some next) = subst (λ (o : Option Ready). IsHeld r now above end o) e is in
      record {
        some = record {
          within = omega (arith, before.some.within);
          ready = before.some.ready;
          pid = before.some.pid;
          least = least_of_all held one is there of next.pid low lower;
        };
        none = tt;
      }

-- what is ready above a pid is ready, and what is ready is so above each lesser pid
one_above : (r : Records) (now : Now) (above slot : ℕ) (held : Option ProcRec) → is_ready_one r now 0 slot held ≡ true
    → is_ready_one r now above slot held ≡ nat_lt above (pid_by held)
one_above r now above slot None ready = absurd (false≢true ready)
one_above r now above slot (Some process) ready = grind (arith, nat_tests, ready)

pub ready_above : (r : Records) (now : Now) (above slot : ℕ) → is_ready r now 0 slot ≡ true → is_ready r now above slot ≡ nat_lt above (pid_by (r.procs slot))
unfolding is_ready
ready_above r now above slot ready = one_above r now above slot (r.procs slot) ready

none_above : (r : Records) (now : Now) (above slot : ℕ) (held : Option ProcRec) → is_ready_one r now 0 slot held ≡ false → is_ready_one r now above slot held ≡ false
none_above r now above slot None not_ready = not_ready
none_above r now above slot (Some process) not_ready = grind (arith, nat_tests, not_ready)

pub not_ready_above : (r : Records) (now : Now) (above slot : ℕ) → is_ready r now 0 slot ≡ false → is_ready r now above slot ≡ false
unfolding is_ready
not_ready_above r now above slot not_ready = none_above r now above slot (r.procs slot) not_ready
