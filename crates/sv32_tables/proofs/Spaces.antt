-- A program whose page tables map each page to a frame of its own steps as on its pages.
use Rattle.std.proofs.Common.{◌≡◌, ◌≢◌, ℕ, ◌+◌, ◌*◌, ◌/◌, ◌%◌, ◌^◌, ◌<◌, ◌≤◌, ◌==◌, ◌&&◌, ◌⊎◌, nat_lt, Bool, true, false, List, Option, Some, None, Ok, refl, sym, ap, ◌∙◌, inl, inr, if◌then◌else◌, arith}
use Rattle.std.proofs.Math.Path.{fun_ext}
use Rattle.std.proofs.lemmas.Bool.{cases_eq, cases_lt}
use Rattle.std.proofs.lemmas.Bool.Decides.{nat_tests}
use Rattle.ow_base.specs.Pages.{Pages, page_space, value_at, with_value, fetched_from, loaded_from, stored_in}
use Rattle.ow_base.specs.Sv32.{WordMap, by_last, by_first, translated, rights_by, byte_by, pages_by, byte_of, word_or_zero, overwritten, value_of, read_at, written_at, sv32_space}
use Rattle.ow_base.specs.Words.{bits}
use Rattle.ow_base.specs.UserStep.{Stepped, Next, Call, Faulted, user_step, size_of}
use Rattle.ow_base.specs.declared.machine.Access.{Access}
use Rattle.ow_base.specs.declared.machine.Access.TheVariants.{Fetch, Load, Store}
use Rattle.ow_base.specs.declared.machine.Width.{Width}
use Rattle.ow_base.specs.declared.machine.Width.TheVariants.{Byte, Half, Word}
use Rattle.ow_base.specs.declared.machine.Rights.{Rights}
use Rattle.ow_base.specs.declared.machine.Rights.TheVariants.{Code, Values}
use Rattle.ow_base.proofs.Simulations.{FollowsStore, Alike, Follows, follows}
use Rattle.sv32_tables.specs.Entries.{pointer_word}
use Rattle.sv32_tables.proofs.Bytes.{byte_of-overwritten, value_of-bytes, shifted, outside}
use Rattle.sv32_tables.proofs.Entries.{leaf_read_back, pointer_read_back, none_mapped}
use Rattle.sv32_tables.specs.Spaces.{Mapping, entry_of, mapped, rights_in, byte_in, pages_in, satp_of, IsMapped, IsWritable}

pub pages_ext : (p q : Pages) → ((page : ℕ) → p.rights page ≡ q.rights page) → ((a : ℕ) → p.bytes a ≡ q.bytes a) → p ≡ q
pages_ext p q rights bytes =
    let with_rights : (ℕ → Option Rights) → Pages = λ r. record { rights = r; bytes = p.bytes } in
    let with_bytes : (ℕ → ℕ) → Pages = λ b. record { rights = q.rights; bytes = b } in
    ap with_rights (fun_ext rights) ∙ ap with_bytes (fun_ext bytes)

-- a choice is the same whichever way it goes
both : {X : Type 0} (test : Bool) (x y z : X) → (test ≡ true → x ≡ z) → (test ≡ false → y ≡ z) → (if test then x else y) ≡ z
both true x y z p q = p refl
both false x y z p q = q refl

-- the rights to a page as loads and stores to it tell them
rights_told : (o : Option Mapping) (a : ℕ) → rights_by (mapped o a Load) (mapped o a Store) ≡ rights_in o
rights_told None a = refl
rights_told (Some m) a = by_rights m.frame m.rights
  where
    by_rights : (frame : ℕ) (rights : Rights) → rights_by (mapped (Some (record { frame = frame; rights = rights })) a Load) (mapped (Some (record { frame = frame; rights = rights })) a Store) ≡ Some rights
    by_rights frame Code = refl
    by_rights frame Values = refl

byte_told : (words : WordMap) (o : Option Mapping) (a : ℕ) → byte_by words (mapped o a Load) ≡ byte_in words (a % 4096) o
byte_told words None a = refl
byte_told words (Some m) a = refl

-- a place that is not the one that is set
pub elsewhere : (f w frame place : ℕ) (new old : Option ℕ) → (f ≢ frame) ⊎ (w ≢ place) → (if (f == frame) && (w == place) then new else old) ≡ old
elsewhere f w frame place new old apart = grind (arith, nat_tests)

-- where there was a word there is one after a word is set
still_there : (test : Bool) (value : ℕ) (was : Option ℕ) → (word : ℕ) × (was ≡ Some word) → (word : ℕ) × ((if test then Some value else was) ≡ Some word)
still_there true value was there = (value, refl)
still_there false value was there = there

module _ {words : WordMap} {root : ℕ} {map : ℕ → Option Mapping} (is : IsMapped words root map) where
  -- what an entry of the last level gives is what the map says of its page
  at_last : (address : ℕ) (access : Access) (page : ℕ) (o : Option Mapping) → map page ≡ o
      → by_last words access address (Some (entry_of o)) ≡ mapped o address access
  at_last address access page None e = (none_mapped words access address).0
  at_last address access page (Some m) e =
      let word = is.whole page m e (bits address 2 10) (omega arith) in
      leaf_read_back words access address m.frame m.rights (is.frame_fits page m e) ∙ rw word.1 refl

  in_low : (address : ℕ) (access : Access) → address / 4194304 ≡ 0
      → by_first words access address (Some (pointer_word is.low)) ≡ mapped (map (address / 4096)) address access
  in_low address access e =
      let page : bits address 12 10 ≡ address / 4096 = omega arith in
      pointer_read_back words access address is.low is.low_fits
      ∙ rw (page, is.low_words (address / 4096) (omega arith)) (at_last address access (address / 4096) (map (address / 4096)) refl)

  in_high : (address : ℕ) (access : Access) → address / 4194304 ≡ 511
      → by_first words access address (Some (pointer_word is.high)) ≡ mapped (map (address / 4096)) address access
  in_high address access e =
      let page : 523264 + bits address 12 10 ≡ address / 4096 = omega arith in
      pointer_read_back words access address is.high is.high_fits
      ∙ ap (by_last words access address) (is.high_words (bits address 12 10) (omega arith))
      ∙ rw page (at_last address access (address / 4096) (map (address / 4096)) refl)

  -- what is neither in the low nor in the high table's reach has no page
  no_entry : (i : ℕ) → i < 1024 → i ≢ 0 → i ≢ 511 → words root i ≡ Some 0
  no_entry i fits low high = is.root_words i fits ∙ grind (arith, nat_tests)

  no_page : (page : ℕ) → page / 1024 ≢ 0 → page / 1024 ≢ 511 → map page ≡ None
  no_page page low high = elim (cases_lt page 523264) [
    | inl below ↦ is.between page (omega arith) below
    | inr above ↦ is.behind page (omega arith)
  ]

  by_root : (address i : ℕ) (access : Access) → address < 2 ^ 32 → i ≡ address / 4194304
      → by_first words access address (words root i) ≡ mapped (map (address / 4096)) address access
  by_root address i access fits e = elim (cases_eq i 0) [
    | inl low ↦ ap (λ k. by_first words access address (words root k)) low ∙ ap (by_first words access address) (is.root_words 0 (omega arith)) ∙ in_low address access (omega arith)
    | inr up ↦ elim (cases_eq i 511) [
      | inl high ↦ ap (λ k. by_first words access address (words root k)) high ∙ ap (by_first words access address) (is.root_words 511 (omega arith)) ∙ in_high address access (omega arith)
      | inr other ↦
          ap (by_first words access address) (no_entry i (omega arith) up other) ∙ (none_mapped words access address).1
          ∙ rw (no_page (address / 4096) (λ z. up (omega arith)) (λ z. other (omega arith))) refl
    ]
  ]

  -- an access to an address leads where the map says
  pub translated-mapped : (address : ℕ) (access : Access) → address < 2 ^ 32
      → translated words (satp_of root) address access ≡ mapped (map (address / 4096)) address access
  unfolding translated
  translated-mapped address access fits =
      let root_fits : root < 2 ^ 22 = is.root_fits in
      let at : bits (2 ^ 31 + root) 0 22 ≡ root = omega arith in
      rw at (by_root address (bits address 22 10) access fits (omega arith))

  rights_same : (page : ℕ) → (pages_by words (satp_of root)).rights page ≡ rights_in (map page)
  unfolding pages_by
  rights_same page =
      both (nat_lt page (2 ^ 20)) _ _ _
      (λ in_reach.
      let small : 4096 * page < 2 ^ 32 = grind (arith, nat_tests) in
      let number : 4096 * page / 4096 ≡ page = omega arith in
      rw (translated-mapped (4096 * page) Load small, translated-mapped (4096 * page) Store small, number) (rights_told (map page) (4096 * page)))
      (λ out. let high : 524288 ≤ page = grind (arith, nat_tests) in sym (ap rights_in (is.behind page high)))

  bytes_same : (a : ℕ) → (pages_by words (satp_of root)).bytes a ≡ byte_in words (a % 4096) (map (a / 4096))
  unfolding pages_by
  bytes_same a =
      both (nat_lt a (2 ^ 32)) _ _ _
      (λ in_reach.
      let small : a < 2 ^ 32 = grind (arith, nat_tests) in
      rw (translated-mapped a Load small) (byte_told words (map (a / 4096)) a))
      (λ out.
      let high : 2 ^ 32 ≤ a = grind (arith, nat_tests) in
      sym (ap (byte_in words (a % 4096)) (is.behind (a / 4096) (omega arith))))

  -- the pages that a program has by its tables are those of the map
  pub pages_by-mapped : pages_by words (satp_of root) ≡ pages_in map words
  unfolding pages_by
  pages_by-mapped = pages_ext _ _ rights_same bytes_same

  -- a word that is set in the frame of a page leaves the tables as they are
  pub IsMapped-set : (changed : WordMap) (page : ℕ) (m : Mapping) (place value : ℕ) → map page ≡ Some m
      → ((f w : ℕ) → changed f w ≡ (if (f == m.frame) && (w == place) then Some value else words f w)) → IsMapped changed root map
  IsMapped-set changed page m place value e set =
      let no_table = is.no_table page m e in
      let kept : (f w : ℕ) → f ≢ m.frame → changed f w ≡ words f w = λ f w apart. set f w ∙ elsewhere f w m.frame place (Some value) (words f w) (inl apart) in
      record {
        low = is.low;
        high = is.high;
        root_words = λ i fits. kept root i (λ q. no_table.0 (sym q)) ∙ is.root_words i fits;
        low_words = λ i fits. kept is.low i (λ q. no_table.1 (sym q)) ∙ is.low_words i fits;
        high_words = λ i fits. kept is.high i (λ q. no_table.2 (sym q)) ∙ is.high_words i fits;
        between = is.between;
        behind = is.behind;
        root_fits = is.root_fits;
        low_fits = is.low_fits;
        high_fits = is.high_fits;
        frame_fits = is.frame_fits;
        whole = λ other n p i fits.
            let there = still_there ((n.frame == m.frame) && (i == place)) value (words n.frame i) (is.whole other n p i fits) in
            (there.0, set n.frame i ∙ there.1);
        no_table = is.no_table;
        apart = is.apart;
      }

-- the word of a page's frame in which an address lies
abbrev word_of : WordMap → Mapping → (address : ℕ) → ℕ
word_of words m a = word_or_zero (words m.frame (a % 4096 / 4))

-- the place of an aligned value in its word
in_word : (a : ℕ) (width : Width) → a % size_of width ≡ 0 → a % 4096 % 4 % size_of width ≡ 0
in_word a Byte aligned = omega arith
in_word a Half aligned = omega arith
in_word a Word aligned = omega arith

-- a byte of the page is one of its word
byte_of_page : (words : WordMap) (map : ℕ → Option Mapping) (m : Mapping) (a b : ℕ) → map (a / 4096) ≡ Some m → b / 4 ≡ a / 4
    → byte_in words (b % 4096) (map (b / 4096)) ≡ byte_of (word_of words m a) (b % 4)
byte_of_page words map m a b e near =
    let page : b / 4096 ≡ a / 4096 = omega arith in
    let place : b % 4096 / 4 ≡ a % 4096 / 4 = omega arith in
    let byte : b % 4096 % 4 ≡ b % 4 = omega arith in
    rw (page, e, place, byte) refl

module _ (words : WordMap) (map : ℕ → Option Mapping) where
  value_read : (m : Mapping) (a : ℕ) (width : Width) → map (a / 4096) ≡ Some m → a % size_of width ≡ 0
      → value_of (word_of words m a) (a % 4096 % 4) width ≡ value_at (pages_in map words).bytes a width
  value_read m a width e aligned =
      sym (value_of-bytes (pages_in map words).bytes (word_of words m a) a (a % 4096 % 4) width (omega arith) (in_word a width aligned)
      (λ b j near fits. byte_of_page words map m a b e (omega arith) ∙ ap (byte_of (word_of words m a)) (omega arith)))

  fetched_by : (m : Mapping) (a : ℕ) (rights : Rights) → m.rights ≡ rights → map (a / 4096) ≡ Some m → a % 4 ≡ 0
      → read_at words Fetch Word a (mapped (Some m) a Fetch) ≡ fetched_from (pages_in map words).bytes a (Some m.rights)
  fetched_by m a Code r e aligned = rw r (ap Ok (value_read m a Word e aligned))
  fetched_by m a Values r e aligned = rw r refl

  fetched_alike : (a : ℕ) (o : Option Mapping) → map (a / 4096) ≡ o → a % 4 ≡ 0
      → read_at words Fetch Word a (mapped o a Fetch) ≡ fetched_from (pages_in map words).bytes a (rights_in o)
  fetched_alike a None e aligned = refl
  fetched_alike a (Some m) e aligned = fetched_by m a m.rights refl e aligned

  loaded_alike : (a : ℕ) (width : Width) (o : Option Mapping) → map (a / 4096) ≡ o → a % size_of width ≡ 0
      → read_at words Load width a (mapped o a Load) ≡ loaded_from (pages_in map words).bytes a width (rights_in o)
  loaded_alike a width None e aligned = refl
  loaded_alike a width (Some m) e aligned = ap Ok (value_read m a width e aligned)

-- the bytes of the pages after a value is written in the word of its page
module _ {words : WordMap} {root : ℕ} {map : ℕ → Option Mapping} (is : IsMapped words root map) (changed : WordMap) (m : Mapping) (a : ℕ) (width : Width) (value : ℕ) where
  pub record IsWritten : Type 0 where
    pub page : map (a / 4096) ≡ Some m
    pub aligned : a % size_of width ≡ 0
    pub set : (f w : ℕ) → changed f w ≡ (if (f == m.frame) && (w == a % 4096 / 4) then Some (overwritten (word_of words m a) (a % 4096 % 4) width value) else words f w)

  same_word : IsWritten → (b : ℕ) → b / 4 ≡ a / 4 → byte_in changed (b % 4096) (map (b / 4096)) ≡ with_value (pages_in map words).bytes a width value b
  same_word written b near =
      let word : ℕ = word_of words m a in
      let here : changed m.frame (a % 4096 / 4) ≡ Some (overwritten word (a % 4096 % 4) width value) =
      written.set m.frame (a % 4096 / 4) ∙ grind (arith, nat_tests) in
      byte_of_page changed map m a b written.page near
      ∙ ap (λ o. byte_of (word_or_zero o) (b % 4)) here
      ∙ byte_of-overwritten word (a % 4096 % 4) (b % 4) width value (omega arith) (omega arith) (in_word a width written.aligned)
      ∙ shifted (byte_of word) (pages_in map words).bytes (4 * (a / 4)) (a % 4096 % 4) (b % 4) a b width value (omega arith) (omega arith)
      (sym (byte_of_page words map m a b written.page near))

  untouched : IsWritten → (b : ℕ) (o : Option Mapping) → b / 4 ≢ a / 4 → map (b / 4096) ≡ o → byte_in changed (b % 4096) o ≡ byte_in words (b % 4096) o
  untouched written b None apart e = refl
  untouched written b (Some n) apart e =
      let either_way : (n.frame ≢ m.frame) ⊎ (b % 4096 / 4 ≢ a % 4096 / 4) = elim (cases_eq (b / 4096) (a / 4096)) [
        | inl same ↦ inr (λ q. apart (omega arith))
        | inr other ↦ inl (λ q. other (is.apart (b / 4096) (a / 4096) n m e written.page q))
      ] in
      ap (λ o. byte_of (word_or_zero o) (b % 4096 % 4)) (written.set n.frame (b % 4096 / 4) ∙ elsewhere n.frame (b % 4096 / 4) m.frame (a % 4096 / 4) _ _ either_way)

  bytes_after : IsWritten → (b : ℕ) → with_value (pages_in map words).bytes a width value b ≡ byte_in changed (b % 4096) (map (b / 4096))
  bytes_after written b = elim (cases_eq (b / 4) (a / 4)) [
    | inl near ↦ sym (same_word written b near)
    | inr apart ↦ outside (pages_in map words).bytes a b width value written.aligned apart ∙ sym (untouched written b (map (b / 4096)) apart refl)
  ]

  pub pages_in-written : IsWritten → record { rights = (pages_in map words).rights; bytes = with_value (pages_in map words).bytes a width value } ≡ pages_in map changed
  pages_in-written written = pages_ext _ _ (λ page. refl) (bytes_after written)

module _ {Image : Type 0} (words : Image → WordMap) (satp : Image → ℕ) (with_word : Image → (frame place value : ℕ) → Image) (Fits : Image → Type 0) where
  -- an image whose tables map pages to frames of their own, and the pages that a program has by them
  pub record IsSpaceOf (root : ℕ) (map : ℕ → Option Mapping) (image : Image) (pages : Pages) : Type 0 where
    pub fits : Fits image
    pub tables : IsMapped (words image) root map
    pub on : satp image ≡ satp_of root
    pub holds : pages ≡ pages_in map (words image)

  -- Where a program stores in a page of values, the word that is set is found at its place, all others are as they
  -- were, and so is satp; and what fits fits then too.
  pub record SetsWords (map : ℕ → Option Mapping) : Type 0 where
    pub set : (image : Image) (frame place value f w : ℕ) → Fits image → IsWritable map frame place → (old : ℕ) → words image frame place ≡ Some old
        → words (with_word image frame place value) f w ≡ (if (f == frame) && (w == place) then Some value else words image f w)
    pub kept : (image : Image) (frame place value : ℕ) → Fits image → IsWritable map frame place → (old : ℕ) → words image frame place ≡ Some old
        → Fits (with_word image frame place value)
    pub same_satp : (image : Image) (frame place value : ℕ) → satp (with_word image frame place value) ≡ satp image

  -- what a step came to, with the pages that the program has by its tables in place of memory
  abbrev pub on_pages : Stepped Image → Stepped Pages
  on_pages (Next regs pc image) = Next regs pc (pages_by (words image) (satp image))
  on_pages Call = Call
  on_pages (Faulted fault) = Faulted fault

  -- the pages are those that the program has by its tables
  pub pages_of_space : (root : ℕ) (map : ℕ → Option Mapping) (image : Image) (pages : Pages) → IsSpaceOf root map image pages → pages_by (words image) (satp image) ≡ pages
  pages_of_space root map image pages is = ap (pages_by (words image)) is.on ∙ pages_by-mapped is.tables ∙ sym is.holds

  told : (root : ℕ) (map : ℕ → Option Mapping) (step : Stepped Image) (s : Stepped Pages) → Follows (IsSpaceOf root map) (sv32_space words satp with_word) page_space step s → on_pages step ≡ s
  told root map (Next regs pc image) s goes = ap (Next regs pc) (pages_of_space root map image goes.0 goes.2) ∙ sym goes.1
  told root map Call s goes = sym goes
  told root map (Faulted fault) s goes = sym goes

  module _ {root : ℕ} {map : ℕ → Option Mapping} where
    stored_by : SetsWords map → (image : Image) (pages : Pages) (a : ℕ) (width : Width) (value : ℕ) (m : Mapping) (rights : Rights)
        → IsSpaceOf root map image pages → m.rights ≡ rights → map (a / 4096) ≡ Some m → a % size_of width ≡ 0
        → FollowsStore (IsSpaceOf root map) (sv32_space words satp with_word) page_space (written_at words satp with_word image width value a (mapped (Some m) a Store)) (stored_in pages a width value (Some m.rights))
    stored_by sets image pages a width value m Code is r e aligned = rw r refl
    stored_by sets image pages a width value m Values is r e aligned =
        let place : ℕ = a % 4096 / 4 in
        let new : ℕ = overwritten (word_of (words image) m a) (a % 4096 % 4) width value in
        let after : Image = with_word image m.frame place new in
        let old = is.tables.whole (a / 4096) m e place (omega arith) in
        let writable : IsWritable map m.frame place = record { page = a / 4096; mapping = m; there = e; of_values = r; at = refl; within = omega arith } in
        let set : (f w : ℕ) → words after f w ≡ (if (f == m.frame) && (w == place) then Some new else words image f w) =
        λ f w. sets.set image m.frame place new f w is.fits writable old.0 old.1 in
        let written : IsWritten is.tables (words after) m a width value = record { page = e; aligned = aligned; set = set } in
        rw r (
          record { rights = pages.rights; bytes = with_value pages.bytes a width value },
          refl,
          record {
            fits = sets.kept image m.frame place new is.fits writable old.0 old.1;
            tables = IsMapped-set is.tables (words after) (a / 4096) m place new e set;
            on = sets.same_satp image m.frame place new ∙ is.on;
            holds = rw is.holds (pages_in-written is.tables (words after) m a width value written);
          },
        )

    stored_alike : SetsWords map → (image : Image) (pages : Pages) (a : ℕ) (width : Width) (value : ℕ) (o : Option Mapping)
        → IsSpaceOf root map image pages → map (a / 4096) ≡ o → a % size_of width ≡ 0
        → FollowsStore (IsSpaceOf root map) (sv32_space words satp with_word) page_space (written_at words satp with_word image width value a (mapped o a Store)) (stored_in pages a width value (rights_in o))
    stored_alike sets image pages a width value None is e aligned = refl
    stored_alike sets image pages a width value (Some m) is e aligned = stored_by sets image pages a width value m m.rights is refl e aligned

    -- the program's memory answers as its pages do
    pub space_follows : SetsWords map → Alike (IsSpaceOf root map) (sv32_space words satp with_word) page_space
    unfolding sv32_space page_space
    space_follows sets = record {
      fetched = λ image pages a is fits aligned.
          rw (is.on, translated-mapped is.tables a Fetch fits, is.holds) (fetched_alike (words image) map a (map (a / 4096)) refl aligned);
      loaded = λ image pages a width is fits aligned.
          rw (is.on, translated-mapped is.tables a Load fits, is.holds) (loaded_alike (words image) map a width (map (a / 4096)) refl aligned);
      stored = λ image pages a width value is fits aligned.
          let rights : pages.rights (a / 4096) ≡ rights_in (map (a / 4096)) = ap (λ (p : Pages). p.rights (a / 4096)) is.holds in
          rw (is.on, translated-mapped is.tables a Store fits, rights) (stored_alike sets image pages a width value (map (a / 4096)) is refl aligned);
    }

    -- so a step of the program on its page tables is a step on its pages, and the tables stay as they are
    pub steps_follow : SetsWords map → (image : Image) (regs : List ℕ) (pc : ℕ) → Fits image → IsMapped (words image) root map → satp image ≡ satp_of root → pc < 2 ^ 32
        → Follows (IsSpaceOf root map) (sv32_space words satp with_word) page_space
        (user_step (sv32_space words satp with_word) regs pc image) (user_step page_space regs pc (pages_by (words image) (satp image)))
    steps_follow sets image regs pc fits tables on small =
        let is : IsSpaceOf root map image (pages_by (words image) (satp image)) = record {
          fits = fits;
          tables = tables;
          on = on;
          holds = ap (pages_by (words image)) on ∙ pages_by-mapped tables;
        } in
        follows (IsSpaceOf root map) (sv32_space words satp with_word) page_space (space_follows sets) image (pages_by (words image) (satp image)) regs pc is small

    -- and the same, as one equation
    pub steps_agree : SetsWords map → (image : Image) (regs : List ℕ) (pc : ℕ) → Fits image → IsMapped (words image) root map → satp image ≡ satp_of root → pc < 2 ^ 32
        → on_pages (user_step (sv32_space words satp with_word) regs pc image) ≡ user_step page_space regs pc (pages_by (words image) (satp image))
    steps_agree sets image regs pc fits tables on small = told root map _ _ (steps_follow sets image regs pc fits tables on small)
