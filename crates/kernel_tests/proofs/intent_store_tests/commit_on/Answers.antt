use Rattle.kernel_tests.proofs.intent_store_tests.commit_on.Goals as goal

pub commit-requires-clause-patch : goal.commit-requires-clause-patch
commit-requires-clause-patch c = rw c.view.ensures (c.requires.patch _)
