-- A load and a store are proved in functions of their own.
use Rattle.rv32_user.proofs.stepping.perform.Goals as goal

pub returns-in-Load-clause-exact : goal.returns-in-Load-clause-exact
returns-in-Load-clause-exact g c = λ word. rw c.in-Load.is (c.load.ensures.exact word)

pub returns-in-Store-clause-exact : goal.returns-in-Store-clause-exact
returns-in-Store-clause-exact g c = λ word. rw c.in-Store.is (c.store.ensures.exact word c.args.regs.now)
