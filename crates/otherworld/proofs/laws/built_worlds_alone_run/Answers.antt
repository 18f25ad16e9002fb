use Rattle.otherworld.proofs.Texts.{ran_text, refused_text, text_runs, text_refuses}
use Rattle.otherworld.proofs.laws.built_worlds_alone_run.Goals as goal

pub returns-clause-ran : goal.returns-clause-ran
returns-clause-ran c = ran_text

pub returns-clause-refused : goal.returns-clause-refused
returns-clause-refused c = refused_text

pub returns-clause-runs : goal.returns-clause-runs
returns-clause-runs c = text_runs

pub returns-clause-refuses : goal.returns-clause-refuses
returns-clause-refuses c = text_refuses
