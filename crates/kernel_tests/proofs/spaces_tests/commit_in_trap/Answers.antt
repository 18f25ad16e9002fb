use Rattle.kernel_tests.proofs.spaces_tests.commit_in_trap.Goals as goal

pub commit-requires-clause-patch : goal.commit-requires-clause-patch
commit-requires-clause-patch c = rw c.view.ensures (c.requires.patch _)
