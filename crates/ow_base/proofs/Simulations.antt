-- A space that answers as another does makes UserStep go as with the other.
use Rattle.std.proofs.Common.{◌≡◌, ℕ, ◌+◌, ◌%◌, ◌^◌, ◌<◌, ◌==◌, Bool, true, false, List, Result, Ok, Err, refl, if◌then◌else◌, arith}
use Rattle.std.proofs.lemmas.Bool.Decides.{nat_tests}
use Rattle.ow_base.specs.UserStep.{Act, Sets, Jumps, Branches, Loads, Stores, Nothing, Calls, Breaks, Illegal, Stepped, Next, Call, Faulted, Spaces, is_aligned, size_of, register, i_immediate, s_immediate, immediate_act, register_act, branch_act, load_act, store_act, system_act, act_of, gone_to, after_load, after_store, acted, after_fetch, user_step}
use Rattle.ow_base.specs.Words.{wrapped, bits}
use Rattle.ow_base.specs.declared.machine.Fault.{Fault}
use Rattle.ow_base.specs.declared.machine.Width.{Width}

-- what an instruction loads or stores lies below 2 ^ 32
abbrev pub AddressFits : Act → Type 0
AddressFits (Loads width signed rd address) = address < 2 ^ 32
AddressFits (Stores width address value) = address < 2 ^ 32
AddressFits (Sets rd value) = Unit {0}
AddressFits (Jumps rd target) = Unit {0}
AddressFits (Branches taken target) = Unit {0}
AddressFits Nothing = Unit {0}
AddressFits Calls = Unit {0}
AddressFits Breaks = Unit {0}
AddressFits Illegal = Unit {0}

either : (test : Bool) (a b : Act) → AddressFits a → AddressFits b → AddressFits (if test then a else b)
either true a b p q = p
either false a b p q = q

wrapped_fits : (n : ℕ) → wrapped n < 2 ^ 32
wrapped_fits n = omega arith

immediate_fits : (funct3 funct7 rd a imm amount : ℕ) → AddressFits (immediate_act funct3 funct7 rd a imm amount)
unfolding immediate_act
immediate_fits funct3 funct7 rd a imm amount =
    either (funct3 == 0) _ _ tt (either (funct3 == 2) _ _ tt (either (funct3 == 3) _ _ tt (either (funct3 == 4) _ _ tt
    (either (funct3 == 6) _ _ tt (either (funct3 == 7) _ _ tt (either (funct3 == 1) _ _ (either (funct7 == 0) _ _ tt tt)
    (either (funct7 == 0) _ _ tt (either (funct7 == 32) _ _ tt tt))))))))

register_fits : (funct3 funct7 rd a b : ℕ) → AddressFits (register_act funct3 funct7 rd a b)
unfolding register_act
register_fits funct3 funct7 rd a b =
    either (funct7 == 0) _ _
    (either (funct3 == 0) _ _ tt (either (funct3 == 1) _ _ tt (either (funct3 == 2) _ _ tt (either (funct3 == 3) _ _ tt
    (either (funct3 == 4) _ _ tt (either (funct3 == 5) _ _ tt (either (funct3 == 6) _ _ tt tt)))))))
    (either (funct7 == 32) _ _ (either (funct3 == 0) _ _ tt (either (funct3 == 5) _ _ tt tt)) tt)

branch_fits : (funct3 a b target : ℕ) → AddressFits (branch_act funct3 a b target)
unfolding branch_act
branch_fits funct3 a b target =
    either (funct3 == 0) _ _ tt (either (funct3 == 1) _ _ tt (either (funct3 == 4) _ _ tt (either (funct3 == 5) _ _ tt
    (either (funct3 == 6) _ _ tt (either (funct3 == 7) _ _ tt tt)))))

load_fits : (funct3 rd address : ℕ) → address < 2 ^ 32 → AddressFits (load_act funct3 rd address)
unfolding load_act
load_fits funct3 rd address fits =
    either (funct3 == 0) _ _ fits (either (funct3 == 1) _ _ fits (either (funct3 == 2) _ _ fits (either (funct3 == 4) _ _ fits
    (either (funct3 == 5) _ _ fits tt))))

store_fits : (funct3 address value : ℕ) → address < 2 ^ 32 → AddressFits (store_act funct3 address value)
unfolding store_act
store_fits funct3 address value fits = either (funct3 == 0) _ _ fits (either (funct3 == 1) _ _ fits (either (funct3 == 2) _ _ fits tt))

system_fits : (word : ℕ) → AddressFits (system_act word)
unfolding system_act
system_fits word = either (word == 0x73) _ _ tt (either (word == 0x100073) _ _ tt tt)

pub address_fits : (word : ℕ) (regs : List ℕ) (pc : ℕ) → AddressFits (act_of word regs pc)
unfolding act_of
address_fits w regs pc =
    let opcode = bits w 0 7 in
    let funct3 = bits w 12 3 in
    let funct7 = bits w 25 7 in
    let rd = bits w 7 5 in
    let a = register regs (bits w 15 5) in
    let b = register regs (bits w 20 5) in
    either (opcode == 0x37) _ _ tt
    (either (opcode == 0x17) _ _ tt
    (either (opcode == 0x6f) _ _ tt
    (either (opcode == 0x67) _ _ (either (funct3 == 0) _ _ tt tt)
    (either (opcode == 0x63) _ _ (branch_fits funct3 a b _)
    (either (opcode == 0x03) _ _ (load_fits funct3 rd _ (wrapped_fits (a + i_immediate w)))
    (either (opcode == 0x23) _ _ (store_fits funct3 _ b (wrapped_fits (a + s_immediate w)))
    (either (opcode == 0x13) _ _ (immediate_fits funct3 funct7 rd a (i_immediate w) (bits w 20 5))
    (either (opcode == 0x33) _ _ (register_fits funct3 funct7 rd a b)
    (either (opcode == 0x0f) _ _ (either (funct3 == 0) _ _ tt tt)
    (either (opcode == 0x73) _ _ (system_fits w) tt))))))))))

module _ {A B : Type 0} (R : A → B → Type 0) (left : Spaces A) (right : Spaces B) where
  -- a store came to what it comes to in the other space
  abbrev pub FollowsStore : Result A Fault → Result B Fault → Type 0
  FollowsStore (Ok a) r = (b : B) × (r ≡ Ok b) × R a b
  FollowsStore (Err fault) r = r ≡ Err fault

  -- at images that belong together, both spaces answer alike to what a program asks: at aligned addresses below 2 ^ 32
  pub record Alike : Type 0 where
    pub fetched : (a : A) (b : B) (address : ℕ) → R a b → address < 2 ^ 32 → address % 4 ≡ 0
        → left.fetched a address ≡ right.fetched b address
    pub loaded : (a : A) (b : B) (address : ℕ) (width : Width) → R a b → address < 2 ^ 32 → address % size_of width ≡ 0
        → left.loaded a address width ≡ right.loaded b address width
    pub stored : (a : A) (b : B) (address : ℕ) (width : Width) (value : ℕ) → R a b → address < 2 ^ 32 → address % size_of width ≡ 0
        → FollowsStore (left.stored a address width value) (right.stored b address width value)

  -- a step came to what it comes to in the other space
  abbrev pub Follows : Stepped A → Stepped B → Type 0
  Follows (Next regs pc a) s = (b : B) × (s ≡ Next regs pc b) × R a b
  Follows Call s = s ≡ Call
  Follows (Faulted fault) s = s ≡ Faulted fault

  -- either way of a choice
  choose : (test : Bool) (x y : Stepped A) (u v : Stepped B) → (test ≡ true → Follows x u) → (test ≡ false → Follows y v)
      → Follows (if test then x else y) (if test then u else v)
  choose true x y u v p q = p refl
  choose false x y u v p q = q refl

  goes : (a : A) (b : B) (regs : List ℕ) (target : ℕ) → R a b → Follows (gone_to regs target a) (gone_to regs target b)
  unfolding gone_to
  goes a b regs target r = choose (is_aligned target 4) _ _ _ _ (λ e. (b, refl, r)) (λ e. refl)

  loads : (a : A) (b : B) (regs : List ℕ) (pc rd : ℕ) (width : Width) (signed : Bool) (answer : Result ℕ Fault) → R a b
      → Follows (after_load regs pc rd width signed a answer) (after_load regs pc rd width signed b answer)
  unfolding after_load
  loads a b regs pc rd width signed (Ok v) r = (b, refl, r)
  loads a b regs pc rd width signed (Err f) r = refl

  stores : (regs : List ℕ) (pc : ℕ) (x : Result A Fault) (y : Result B Fault) → FollowsStore x y
      → Follows (after_store regs pc x) (after_store regs pc y)
  unfolding after_store
  stores regs pc (Ok a) y s = (s.0, rw s.1 refl, s.2)
  stores regs pc (Err f) y e = rw e refl

  aligned : (address size : ℕ) → is_aligned address size ≡ true → address % size ≡ 0
  aligned address size e = grind (arith, nat_tests)

  acts : Alike → (a : A) (b : B) (word : ℕ) (regs : List ℕ) (pc : ℕ) (act : Act) → AddressFits act → R a b
      → Follows (acted left word regs pc a act) (acted right word regs pc b act)
  unfolding acted
  acts alike a b word regs pc (Sets rd value) fits r = (b, refl, r)
  acts alike a b word regs pc (Jumps rd target) fits r = goes a b _ target r
  acts alike a b word regs pc (Branches taken target) fits r = choose taken _ _ _ _ (λ e. goes a b regs target r) (λ e. (b, refl, r))
  acts alike a b word regs pc (Loads width signed rd address) fits r =
      choose (is_aligned address (size_of width)) _ _ _ _
      (λ e. rw (alike.loaded a b address width r fits (aligned address (size_of width) e))
      (loads a b regs pc rd width signed (right.loaded b address width) r))
      (λ e. refl)
  acts alike a b word regs pc (Stores width address value) fits r =
      choose (is_aligned address (size_of width)) _ _ _ _
      (λ e. stores regs pc _ _ (alike.stored a b address width value r fits (aligned address (size_of width) e)))
      (λ e. refl)
  acts alike a b word regs pc Nothing fits r = (b, refl, r)
  acts alike a b word regs pc Calls fits r = refl
  acts alike a b word regs pc Breaks fits r = refl
  acts alike a b word regs pc Illegal fits r = refl

  fetches : Alike → (a : A) (b : B) (regs : List ℕ) (pc : ℕ) (answer : Result ℕ Fault) → R a b
      → Follows (after_fetch left regs pc a answer) (after_fetch right regs pc b answer)
  unfolding after_fetch
  fetches alike a b regs pc (Ok word) r = acts alike a b word regs pc (act_of word regs pc) (address_fits word regs pc) r
  fetches alike a b regs pc (Err f) r = refl

  -- so a step of the one is a step of the other, and the images belong together again
  pub follows : Alike → (a : A) (b : B) (regs : List ℕ) (pc : ℕ) → R a b → pc < 2 ^ 32
      → Follows (user_step left regs pc a) (user_step right regs pc b)
  unfolding user_step
  follows alike a b regs pc r fits =
      choose (is_aligned pc 4) _ _ _ _
      (λ e. rw (alike.fetched a b pc r fits (aligned pc 4 e)) (fetches alike a b regs pc (right.fetched b pc) r))
      (λ e. refl)
