use Rattle.std.proofs.Common.{◌≡◌, ◌+◌, ◌<◌, List, [], ◌∷◌, ◌++◌, length, take, get_or, refl, sym, subst, arith}
use Rattle.std.proofs.lemmas.List.{take_more}
use Rattle.intent_store.specs.Live.{held_of}
use Rattle.intent_store.proofs.Unstored.{unstored_same, unstored_then}
use Rattle.word_store.proofs.Outcomes.{at_err}
use Rattle.kernel_traps.specs.Putting.{IsPut}
use Rattle.kernel_traps.proofs.Puts.{put_none, put_partly, put_then}
use Rattle.kernel_traps.proofs.services.put_bytes.Goals as goal

pub returns-in_err-put_byte-clause-err : goal.returns-in_err-put_byte-clause-err
returns-in_err-put_byte-clause-err c =
    at_err c.from_residual.result _
    (put_partly (held_of c.args.live.now.plant.now) (held_of c.loop-byte.live.plant.now) (held_of c.put_byte.new.live.plant.now) c.args.tty c.args.bytes.now c.loop-byte.byte-index
    (omega arith) c.loop-byte.invariant.put c.in_err-put_byte.ensures.err)

pub returns-in_err-put_byte-clause-unstored : goal.returns-in_err-put_byte-clause-unstored
returns-in_err-put_byte-clause-unstored c =
    unstored_then c.args.live.now.plant.now c.loop-byte.live.plant.now c.put_byte.new.live.plant.now c.loop-byte.invariant.unstored c.put_byte.ensures.unstored

pub loop-byte-init : goal.loop-byte-init
loop-byte-init c = record {
  put = put_none (held_of c.args.live.now.plant.now) c.args.tty c.requires.decodes;
  unstored = unstored_same c.args.live.now.plant.now;
  stands = c.requires.stands;
  able = c.requires.able;
  same_reference = refl;
}

pub loop-byte-preserved : goal.loop-byte-preserved
loop-byte-preserved c =
    let bytes = c.args.bytes.now in
    let i = c.loop-byte.byte-index in
    let within : i < length bytes = omega arith in
    let front : List _ = take i bytes in
    let more : take (i + 1) bytes ≡ take i bytes ++ (get_or bytes i 0 ∷ []) = take_more bytes i 0 within in
    record {
      put = subst (λ (ys : List _). IsPut (held_of c.args.live.now.plant.now) c.args.tty ys ys (held_of c.put_byte.new.live.plant.now)) (sym more)
          (put_then (held_of c.args.live.now.plant.now) (held_of c.loop-byte.live.plant.now) (held_of c.put_byte.new.live.plant.now) c.args.tty front front _ _ c.loop-byte.invariant.put c.in_ok-put_byte.ensures.ok);
      unstored = unstored_then c.args.live.now.plant.now c.loop-byte.live.plant.now c.put_byte.new.live.plant.now c.loop-byte.invariant.unstored c.put_byte.ensures.unstored;
      stands = c.put_byte.ensures.still_stands;
      able = c.in_ok-put_byte.ensures.stays;
      same_reference = cc;
    }
