use Rattle.std.proofs.Common.{rules, ◌≡◌, ◌∙◌, sym, ap, arith, length}
use Rattle.phys_memory.specs.Halves.{first_own, words_from}
use Rattle.ow_plant.specs.Dead.{DeadState}
use Rattle.ow_plant.specs.Lent.{LentState}
use Rattle.ow_plant.specs.Owning.{own_words}
use Rattle.ow_plant.specs.declared.own_half.OwnPlace.{OwnPlace}
use Rattle.word_store.proofs.Outcomes.{on_ok}
use Rattle.resurrector.proofs.Loans.{built_again, dead_stays, left_again, read_again, room_again, shown_again, stores_again, tape_again, words_after}
use Rattle.resurrector.proofs.plants.resurrect.Goals as goal

pub returns-clause-built : goal.returns-clause-built
returns-clause-built c =
    let s = c.args.plant.now in
    let own = c.resurrection-own.result.1 in
    let after = c.resurrect_lent-revival.new.own in
    let first : after.place.first ≡ first_own s.memory s.live = ap (λ (place : OwnPlace). place.first) c.resurrect_lent-revival.ensures.place ∙ c.resurrection-own.ensures.place.first in
    on_ok c.resurrect_lent-revival.result _ _
    (built_again _ _ _ _ (own_words after) _ c.resurrection-own.ensures.left c.resurrection-own.ensures.dead_words (own_words own) _
    (ap (λ n. words_from n own.lent.now.own) c.resurrection-own.ensures.place.first ∙ ap (λ (lent : LentState). words_from (first_own s.memory s.live) lent.own) c.resurrection-own.ensures.own)
    (words_after s.memory s.live _ after.lent.now.own after.place.first first (search rules)))
    c.resurrect_lent-revival.ensures.built

pub returns-clause-read : goal.returns-clause-read
returns-clause-read c =
    let s = c.args.plant.now in
    let after = c.resurrect_lent-revival.new.own in
    let first : after.place.first ≡ first_own s.memory s.live = ap (λ (place : OwnPlace). place.first) c.resurrect_lent-revival.ensures.place ∙ c.resurrection-own.ensures.place.first in
    on_ok c.resurrect_lent-revival.result _ _
    (read_again _ _ _ _ (own_words after) _ c.resurrection-own.ensures.left c.resurrection-own.ensures.dead_words
    (words_after s.memory s.live _ after.lent.now.own after.place.first first (search rules)))
    c.resurrect_lent-revival.ensures.read

pub returns-clause-dead : goal.returns-clause-dead
returns-clause-dead c =
    dead_stays c.args.plant.now c.resurrection-own.result.1.lent.now _ c.resurrect_lent-revival.new.own.lent.now.own c.requires.armed c.resurrection-own.ensures.own c.resurrect_lent-revival.ensures.size (search rules)

pub returns-clause-shown0 : goal.returns-clause-shown0
returns-clause-shown0 c =
    let s = c.args.plant.now in
    let after = c.resurrect_lent-revival.new.own in
    let first : after.place.first ≡ first_own s.memory s.live = ap (λ (place : OwnPlace). place.first) c.resurrect_lent-revival.ensures.place ∙ c.resurrection-own.ensures.place.first in
    on_ok c.resurrect_lent-revival.result _ _
    (shown_again _ _ (own_words after) _ 0 after.lent.now.tty0.display _ c.resurrection-own.ensures.left
    (words_after s.memory s.live _ after.lent.now.own after.place.first first (search rules)) (search rules))
    c.resurrect_lent-revival.ensures.shown0

pub returns-clause-shown1 : goal.returns-clause-shown1
returns-clause-shown1 c =
    let s = c.args.plant.now in
    let after = c.resurrect_lent-revival.new.own in
    let first : after.place.first ≡ first_own s.memory s.live = ap (λ (place : OwnPlace). place.first) c.resurrect_lent-revival.ensures.place ∙ c.resurrection-own.ensures.place.first in
    on_ok c.resurrect_lent-revival.result _ _
    (shown_again _ _ (own_words after) _ 1 after.lent.now.tty1.display _ c.resurrection-own.ensures.left
    (words_after s.memory s.live _ after.lent.now.own after.place.first first (search rules)) (search rules))
    c.resurrect_lent-revival.ensures.shown1

pub resurrect_lent-revival-requires-clause-room0 : goal.resurrect_lent-revival-requires-clause-room0
resurrect_lent-revival-requires-clause-room0 c =
    let s = c.args.plant.now in
    room_again _ _ _ _ 0 c.resurrection-own.result.1.lent.now.tty0 s.tty0 c.resurrection-own.ensures.left c.resurrection-own.ensures.dead_words
    (ap (λ (lent : LentState). lent.tty0) c.resurrection-own.ensures.own) (c.requires.room 0 (omega arith))

pub returns-clause-tape0 : goal.returns-clause-tape0
returns-clause-tape0 c =
    let s = c.args.plant.now in
    let after = c.resurrect_lent-revival.new.own in
    on_ok c.resurrect_lent-revival.result _ _
    (tape_again _ _ _ _ 0 _ s.tty0.tape after.lent.now.tty0.tape _ c.resurrection-own.ensures.left c.resurrection-own.ensures.dead_words
    (ap (λ (lent : LentState). lent.tty0.tape) c.resurrection-own.ensures.own) (search rules))
    c.resurrect_lent-revival.ensures.tape0

pub returns-clause-left0 : goal.returns-clause-left0
returns-clause-left0 c =
    let s = c.args.plant.now in
    let after = c.resurrect_lent-revival.new.own in
    left_again _ _ _ _ 0 _ s.tty0.tape after.lent.now.tty0.tape _ c.resurrection-own.ensures.left c.resurrection-own.ensures.dead_words
    (ap (λ (lent : LentState). lent.tty0.tape) c.resurrection-own.ensures.own) (search rules)
    c.resurrect_lent-revival.ensures.left0

pub resurrect_lent-revival-requires-clause-room1 : goal.resurrect_lent-revival-requires-clause-room1
resurrect_lent-revival-requires-clause-room1 c =
    let s = c.args.plant.now in
    room_again _ _ _ _ 1 c.resurrection-own.result.1.lent.now.tty1 s.tty1 c.resurrection-own.ensures.left c.resurrection-own.ensures.dead_words
    (ap (λ (lent : LentState). lent.tty1) c.resurrection-own.ensures.own) (c.requires.room 1 (omega arith))

pub returns-clause-tape1 : goal.returns-clause-tape1
returns-clause-tape1 c =
    let s = c.args.plant.now in
    let after = c.resurrect_lent-revival.new.own in
    on_ok c.resurrect_lent-revival.result _ _
    (tape_again _ _ _ _ 1 _ s.tty1.tape after.lent.now.tty1.tape _ c.resurrection-own.ensures.left c.resurrection-own.ensures.dead_words
    (ap (λ (lent : LentState). lent.tty1.tape) c.resurrection-own.ensures.own) (search rules))
    c.resurrect_lent-revival.ensures.tape1

pub returns-clause-left1 : goal.returns-clause-left1
returns-clause-left1 c =
    let s = c.args.plant.now in
    let after = c.resurrect_lent-revival.new.own in
    left_again _ _ _ _ 1 _ s.tty1.tape after.lent.now.tty1.tape _ c.resurrection-own.ensures.left c.resurrection-own.ensures.dead_words
    (ap (λ (lent : LentState). lent.tty1.tape) c.resurrection-own.ensures.own) (search rules)
    c.resurrect_lent-revival.ensures.left1

pub resurrect_lent-revival-requires-clause-counted0 : goal.resurrect_lent-revival-requires-clause-counted0
resurrect_lent-revival-requires-clause-counted0 c =
    ap (λ (dead : DeadState). dead.counts 0) c.resurrection-own.ensures.left
    ∙ sym (ap (λ (lent : LentState). length lent.tty0.tape) c.resurrection-own.ensures.own)

pub resurrect_lent-revival-requires-clause-counted1 : goal.resurrect_lent-revival-requires-clause-counted1
resurrect_lent-revival-requires-clause-counted1 c =
    ap (λ (dead : DeadState). dead.counts 1) c.resurrection-own.ensures.left
    ∙ sym (ap (λ (lent : LentState). length lent.tty1.tape) c.resurrection-own.ensures.own)

pub returns-clause-few : goal.returns-clause-few
returns-clause-few c =
    stores_again _ _ _ c.args.plant.now.stores c.resurrect_lent-revival.new.own.lent.now.stores _ c.resurrection-own.ensures.left
    (ap (λ (lent : LentState). lent.stores) c.resurrection-own.ensures.own) (search rules)
    c.resurrect_lent-revival.ensures.counted
