-- A word can be stored exactly where its four bytes can be written, as they lie in one page.
use Rattle.std.proofs.Common.{◌≡◌, ◌==◌, ◌&&◌, ℕ, ◌+◌, ◌/◌, ◌%◌, Bool, true, false, Option, Some, None, IfSome, refl, ap, ◌∙◌, arith}
use Rattle.std.proofs.lemmas.Bool.Decides.{nat_tests}
use Rattle.ow_base.specs.Pages.{Pages, rights_at}
use Rattle.ow_base.specs.Sv32.{WordMap}
use Rattle.record_layouts.specs.declared.proc.ProcRec.{ProcRec}
use Rattle.record_layouts.specs.Held.{Records}
use Rattle.record_layouts.specs.Pages.{is_mapped, pages_of}
use Rattle.record_layouts.specs.Unix.Spaces.{are_values, takes_word}
use Rattle.address_space.specs.Writable.{is_writable}
use Rattle.syscalls.specs.Planned.{pages_if}
use Rattle.syscalls.specs.Serving.{IsWithBank}

in_page : (pages : Pages) (address other : ℕ) → other / 4096 ≡ address / 4096 → are_values (rights_at pages other) ≡ are_values (rights_at pages address)
in_page pages address other same = ap (λ (page : ℕ). are_values (pages.rights page)) same

four_times : (test : Bool) → (test && (test && (test && (test && true)))) ≡ test
four_times true = refl
four_times false = refl

word_writable : (pages : Pages) (address : ℕ) → address % 4 ≡ 0 → is_writable pages address 4 ≡ takes_word pages address
unfolding is_writable
word_writable pages address word =
    let aligned : (address % 4 == 0) ≡ true = grind (arith, nat_tests, word) in
    let one = in_page pages address (address + 1) (omega (arith, word)) in
    let two = in_page pages address (address + 1 + 1) (omega (arith, word)) in
    let three = in_page pages address (address + 1 + 1 + 1) (omega (arith, word)) in
    rw (one, two, three, aligned) (four_times (are_values (rights_at pages address)))

pub takes_word_by : (pages : Pages) (address : ℕ) (result answer : Bool) → address % 4 ≡ 0 → result ≡ answer → answer ≡ is_writable pages address 4 → result ≡ takes_word pages address
takes_word_by pages address result answer word same answers = same ∙ (answers ∙ word_writable pages address word)

-- what is answered of the pages of the process in a slot, where each page has a frame
pub of_process : (r : Records) (words : WordMap) (slot address : ℕ) (answer : Bool) (process : ProcRec) (held : Option ProcRec) → IsWithBank process held
    → IfSome held (λ p. is_mapped r slot p ≡ true) → ((p : ProcRec) → held ≡ Some p → is_mapped r slot p ≡ true → answer ≡ is_writable (pages_of r words slot p) address 4)
    → answer ≡ is_writable (pages_if r words slot held) address 4
of_process r words slot address answer process None is mapped answers = absurd is
of_process r words slot address answer process (Some other) is mapped answers = answers other refl mapped
