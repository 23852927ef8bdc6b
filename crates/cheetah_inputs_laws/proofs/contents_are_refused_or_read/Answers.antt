use Rattle.cheetah_inputs_laws.proofs.Once.{apart, given_once}
use Rattle.cheetah_inputs_laws.proofs.Read.{contents_given, either}
use Rattle.cheetah_inputs_laws.proofs.contents_are_refused_or_read.Goals as goal
use Rattle.cheetah_inputs_laws.specs.Read.{answering}

pub returns-clause-either : goal.returns-clause-either
returns-clause-either c = either

pub returns-clause-comes : goal.returns-clause-comes
returns-clause-comes c request contents answer outcome of = contents_given request contents (answering answer) outcome of

pub returns-clause-apart : goal.returns-clause-apart
returns-clause-apart c = apart

pub returns-clause-one : goal.returns-clause-one
returns-clause-one c = given_once
