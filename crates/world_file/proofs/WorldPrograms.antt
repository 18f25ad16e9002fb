-- Programs found by their names, in the finished blocks and in the one that now is.
use Rattle.std.proofs.Common.{◌≡◌, ℕ, Bool, true, false, List, [], ◌∷◌, ◌++◌, Option, Some, None, ap, sym, refl, if◌then◌else◌}
use Rattle.std.specs.List.{find}
use Rattle.std.specs.Option.{option_map}
use Rattle.ow_base.specs.World.{started_page_count, pages_of_found}
use Rattle.ow_base.specs.declared.worlds.Program.{Program}
use Rattle.world_file.specs.WorldReasons.{named_pages}
use Rattle.world_file.specs.WorldFacts.{has_name}

abbrev found_or : Option Program → Option Program → Option Program
found_or (Some p) other = Some p
found_or None other = other

find-append : (test : Program → Bool) (ps qs : List Program) → find test (ps ++ qs) ≡ found_or (find test ps) (find test qs)
find-append test [] qs = refl
find-append test (p ∷ ps) qs = by_head (test p) p (find test (ps ++ qs)) (find test ps) (find test qs) (find-append test ps qs)
  where
    by_head : (hit : Bool) (p : Program) (whole front back : Option Program) → whole ≡ found_or front back → (if hit then Some p else whole) ≡ found_or (if hit then Some p else front) back
    by_head true p whole front back h = refl
    by_head false p whole front back h = h

pub pages_in_front : (name : List ℕ) (ps qs : List Program) (pages : ℕ) → Some pages ≡ option_map started_page_count (find (has_name name) ps) → pages ≡ named_pages name (ps ++ qs)
pages_in_front name ps qs pages h = by_found (find (has_name name) ps) (find-append (has_name name) ps qs) h
  where
    by_found : (o : Option Program) → find (has_name name) (ps ++ qs) ≡ found_or o (find (has_name name) qs) → Some pages ≡ option_map started_page_count o → pages ≡ named_pages name (ps ++ qs)
    by_found None is h = cc
    by_found (Some p) is h = cc

pub pages_behind : (name : List ℕ) (ps qs : List Program) → None ≡ option_map started_page_count (find (has_name name) ps) → named_pages name qs ≡ named_pages name (ps ++ qs)
pages_behind name ps qs h = by_found (find (has_name name) ps) (find-append (has_name name) ps qs) h
  where
    by_found : (o : Option Program) → find (has_name name) (ps ++ qs) ≡ found_or o (find (has_name name) qs) → None ≡ option_map started_page_count o → named_pages name qs ≡ named_pages name (ps ++ qs)
    by_found None is h = ap pages_of_found (sym is)
    by_found (Some p) is h = cc
