-- How a signal record is written.
use Rattle.std.proofs.Common.{◌≡◌, ℕ, ◌∙◌, ap, refl, arith, List, [], ◌∷◌, ◌++◌, length, slice_set, take, drop, replicate}
use Rattle.std.proofs.lemmas.Grind.{common_steps}
use Rattle.ow_base.specs.Seals.{AreWords, seal_of, sealed}
use Rattle.record_layouts.specs.declared.sig.SigRec.{SigRec}
use Rattle.record_layouts.specs.Sig.{IsSig, FitsSig}
use Rattle.record_layouts.proofs.Records.{zeros}
use Rattle.record_layouts.proofs.Laying.{front, behind, set_behind, seal_put, seal_at}

-- the words of a record whose last word is this one
abbrev pub sig_words : (signals : SigRec) (handlers : List ℕ) (last : ℕ) → List ℕ
sig_words signals handlers last = 0x53494753 ∷ signals.pid ∷ signals.pending ∷ (handlers ++ (replicate 13 0 ++ last ∷ []))

module _ (signals : SigRec) (handlers : List ℕ) (full : length handlers ≡ 15) where
  long : (last : ℕ) → length (sig_words signals handlers last) ≡ 32
  long last = grind (arith, common_steps)

  last_set : (last value : ℕ) → slice_set (sig_words signals handlers last) 31 value ≡ sig_words signals handlers value
  last_set last value =
      ap (λ rest. 0x53494753 ∷ signals.pid ∷ signals.pending ∷ rest) (set_behind handlers (replicate 13 0 ++ last ∷ []) 15 13 value full)

  unused : (last : ℕ) → take 13 (drop 18 (sig_words signals handlers last)) ≡ replicate 13 0
  unused last = ap (take 13) (behind handlers (replicate 13 0 ++ last ∷ []) 15 0 full)

-- the words of a process's signals, sealed, are its record
pub written : (signals : SigRec) (handlers words : List ℕ) → length handlers ≡ 15 → handlers ≡ signals.handlers → FitsSig signals
    → words ≡ sealed (sig_words signals handlers 0) → AreWords words → IsSig words signals
written signals handlers words full same fits put are =
    let unsealed = sig_words signals handlers 0 in
    let long_before : length unsealed ≡ 32 = long signals handlers full 0 in
    let value = seal_of unsealed in
    let after = sig_words signals handlers value in
    let laid : words ≡ after = put ∙ seal_at unsealed 31 long_before ∙ last_set signals handlers full 0 value in
    let seal = seal_put unsealed (omega arith) in
    rw laid (record {
      long = long signals handlers full value;
      all_words = rw laid at are;
      kind = refl;
      pid = refl;
      pending = refl;
      handlers = front handlers (replicate 13 0 ++ value ∷ []) 15 full ∙ same;
      unused = zeros after 18 31 (unused signals handlers full value);
      fits = fits;
      seal = rw (← put, laid) at seal;
    })
