-- Descriptors that are closed one after the other.
use Rattle.std.proofs.Common.{◌≡◌, ℕ, zero, suc, ◌+◌, ◌<◌, ◌≤◌, Bool, true, false, if◌then◌else◌, List, [], ◌∷◌, ◌++◌, length, map, take, drop, slice_index, slice_set, EachIndex, refl, ap, ◌∙◌, arith}
use Rattle.record_layouts.specs.declared.proc.ProcRec.{ProcRec}
use Rattle.record_layouts.specs.Held.{Records}
use Rattle.record_layouts.specs.Pages.{is_live}
use Rattle.record_layouts.specs.Proc.{FitsProc}
use Rattle.frame_table.proofs.Counting.{live_fits}
use Rattle.resurrector.specs.Survivors.{IsSurvivor, kept_open, with_descriptors}

pub none_closed : (close : ℕ → ℕ) (words : List ℕ) → words ≡ map close (take 0 words) ++ drop 0 words
none_closed close words = refl

closed_next : (close : ℕ → ℕ) (words : List ℕ) (k : ℕ) → k < length words
    → slice_set (map close (take k words) ++ drop k words) k (close (slice_index words k)) ≡ map close (take (suc k) words) ++ drop (suc k) words
closed_next close [] k less = absurd (omega (arith, less))
closed_next close (word ∷ words) zero less = refl
closed_next close (word ∷ words) (suc k) less = ap (λ (rest : List ℕ). close word ∷ rest) (closed_next close words k (omega (arith, less)))

next_is : (k : ℕ) → suc k ≡ k + 1
next_is k = omega arith

pub one_closed : (close : ℕ → ℕ) (words now : List ℕ) (k value : ℕ) → k < length words → now ≡ map close (take k words) ++ drop k words
    → value ≡ close (slice_index words k) → slice_set now k value ≡ map close (take (k + 1) words) ++ drop (k + 1) words
one_closed close words now k value less is same =
    ap (λ (list : List ℕ). slice_set list k value) is
    ∙ ap (λ (n : ℕ). slice_set (map close (take k words) ++ drop k words) k n) same
    ∙ closed_next close words k less
    ∙ ap (λ (n : ℕ). map close (take n words) ++ drop n words) (next_is k)

take_all : (words : List ℕ) → take (length words) words ≡ words
take_all [] = refl
take_all (word ∷ words) = ap (λ (rest : List ℕ). word ∷ rest) (take_all words)

drop_all : (words : List ℕ) → drop (length words) words ≡ []
drop_all [] = refl
drop_all (word ∷ words) = drop_all words

no_more : (words : List ℕ) → words ++ [] ≡ words
no_more [] = refl
no_more (word ∷ words) = ap (λ (rest : List ℕ). word ∷ rest) (no_more words)

pub all_closed : (close : ℕ → ℕ) (words now : List ℕ) (count : ℕ) → count ≡ length words → now ≡ map close (take count words) ++ drop count words
    → now ≡ map close words
all_closed close words now count long is =
    is ∙ ap (λ (n : ℕ). map close (take n words) ++ drop n words) long
    ∙ ap (λ (list : List ℕ). map close list ++ drop (length words) words) (take_all words)
    ∙ ap (λ (list : List ℕ). map close words ++ list) (drop_all words) ∙ no_more (map close words)

-- a closed descriptor is one still
map_at : (close : ℕ → ℕ) (words : List ℕ) (k : ℕ) → k < length words → slice_index (map close words) k ≡ close (slice_index words k)
map_at close [] k less = absurd (omega (arith, less))
map_at close (word ∷ words) zero less = refl
map_at close (word ∷ words) (suc k) less = map_at close words k (omega (arith, less))

map_long : (close : ℕ → ℕ) (words : List ℕ) → length (map close words) ≡ length words
map_long close [] = refl
map_long close (word ∷ words) = ap (λ (n : ℕ). suc n) (map_long close words)

closed_few : (test : Bool) (word : ℕ) → word ≤ 32 → (if test then 0 else word) ≤ 32
closed_few true word few = omega arith
closed_few false word few = few

pub closed_fits : (r : Records) (process : ProcRec) → FitsProc process → is_live process ≡ true → IsSurvivor (with_descriptors r process)
closed_fits r process fits live = let its = live_fits process fits live in record {
  fits = record {
    state = fits.state;
    free = λ e. absurd (grind (arith, e, live));
    live = λ e. record {
      pid = its.pid;
      parent = its.parent;
      code_pages = its.code_pages;
      data_pages = its.data_pages;
      heap_end = its.heap_end;
      flags = its.flags;
      status = its.status;
      descs = λ k within.
          let less : k < length process.descs = omega (arith, within, map_long (kept_open r) process.descs) in
          rw (map_at (kept_open r) process.descs k less) (closed_few _ (slice_index process.descs k) (its.descs k less));
    };
    no_call = fits.no_call;
    none_done = fits.none_done;
    ended = λ e. absurd (grind (arith, e, live));
  };
  live = live;
}

pub descriptors_few : (process : ProcRec) → FitsProc process → is_live process ≡ true → EachIndex process.descs (λ k. slice_index process.descs k ≤ 32)
descriptors_few process fits live = (live_fits process fits live).descs
