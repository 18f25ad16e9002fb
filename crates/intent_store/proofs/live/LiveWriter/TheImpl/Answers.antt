-- What the trait says of a refusal it says by a test.
use Rattle.std.proofs.Common.{◌≡◌, Some, None, Result, OnOk, OnErr}
use Rattle.ow_plant.specs.declared.refusal.Refusal.TheVariants as refusal
use Rattle.ow_plant.specs.State.{PlantState}
use Rattle.word_store.proofs.Outcomes.{either_way, none_stands, none_at_ok, on_err, on_ok, some_at_err}
use Rattle.intent_store.specs.Live.{IsBeforeEnd, IsStanding}
use Rattle.intent_store.proofs.Holding.{able_before_end, stopped_before_end}
use Rattle.intent_store.proofs.live.LiveWriter.TheImpl.Goals as goal

-- whatever was answered, the end of the trap was not refused
still_before_end : {T E : Type 0} (r : Result T E) (s : PlantState) → IsStanding s → OnOk r (s.refusal ≡ None) → OnErr r (s.refusal ≡ Some refusal.Store) → IsBeforeEnd s
still_before_end r s stands able stopped =
    either_way r (IsBeforeEnd s) (on_ok r _ _ (able_before_end s stands) able) (on_err r _ _ (stopped_before_end s stands) stopped)

pub commit-asks : goal.commit-asks
commit-asks g c = record { able = none_stands _ c.requires.able; stands = c.requires.stands.standing; patch = c.requires.patch }

pub commit-tells : goal.commit-tells
commit-tells g c = record {
  ok = c.ensures.ok;
  err = c.ensures.err;
  stays = none_at_ok c.result _ c.ensures.stays;
  cause = some_at_err c.result _ _ c.ensures.cause;
  unstored = c.ensures.unstored;
  allowed = c.ensures.allowed;
  still_stands = still_before_end c.result _ c.ensures.still_stands c.ensures.stays c.ensures.cause;
  place = c.ensures.place;
}

pub direct_word-asks : goal.direct_word-asks
direct_word-asks g c = record { able = none_stands _ c.requires.able; stands = c.requires.stands.standing; direct = c.requires.direct }

pub direct_word-tells : goal.direct_word-tells
direct_word-tells g c = record {
  ok = c.ensures.ok;
  err = c.ensures.err;
  stays = none_at_ok c.result _ c.ensures.stays;
  cause = some_at_err c.result _ _ c.ensures.cause;
  unstored = c.ensures.unstored;
  allowed = c.ensures.allowed;
  still_stands = still_before_end c.result _ c.ensures.still_stands c.ensures.stays c.ensures.cause;
  place = c.ensures.place;
}

pub copy_frame-asks : goal.copy_frame-asks
copy_frame-asks g c = record { able = none_stands _ c.requires.able; stands = c.requires.stands.standing; from = c.requires.from; to = c.requires.to }

pub copy_frame-tells : goal.copy_frame-tells
copy_frame-tells g c = record {
  ok = c.ensures.ok;
  err = c.ensures.err;
  stays = none_at_ok c.result _ c.ensures.stays;
  cause = some_at_err c.result _ _ c.ensures.cause;
  unstored = c.ensures.unstored;
  allowed = c.ensures.allowed;
  still_stands = still_before_end c.result _ c.ensures.still_stands c.ensures.stays c.ensures.cause;
  place = c.ensures.place;
}

pub zero_frame-asks : goal.zero_frame-asks
zero_frame-asks g c = record { able = none_stands _ c.requires.able; stands = c.requires.stands.standing; frame = c.requires.frame }

pub zero_frame-tells : goal.zero_frame-tells
zero_frame-tells g c = record {
  ok = c.ensures.ok;
  err = c.ensures.err;
  stays = none_at_ok c.result _ c.ensures.stays;
  cause = some_at_err c.result _ _ c.ensures.cause;
  unstored = c.ensures.unstored;
  allowed = c.ensures.allowed;
  still_stands = still_before_end c.result _ c.ensures.still_stands c.ensures.stays c.ensures.cause;
  place = c.ensures.place;
}
