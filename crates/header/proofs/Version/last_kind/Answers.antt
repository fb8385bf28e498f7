-- `header::Version::last_kind` meets its contract, by computing it. Assumes nothing.
use Rattle.paper.specs.File.{last_kind}
use Rattle.header.proofs.Version.last_kind.Goals as goal

pub returns-in-First : goal.returns-in-First
unfolding last_kind
returns-in-First c = rw c.in-First.is

pub returns-in-Second : goal.returns-in-Second
unfolding last_kind
returns-in-Second c = rw c.in-Second.is
