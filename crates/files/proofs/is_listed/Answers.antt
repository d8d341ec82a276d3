-- An empty slot is not listed; another is listed where it is the lowest of its file.
use borrow.Author.Tests.{eq-eqb, ne_eqb}
use Rattle.files.specs.Files.{is_listed}
use Rattle.disk_volume.specs.Name.{name_at}
use Rattle.lists.specs.Bytes.{byte, part}
use Rattle.files.proofs.is_listed.Goals as goal

pub returns-then-user : goal.returns-then-user
unfolding is_listed
returns-then-user c = rw (eq-eqb (byte c.args.e.now 0) 229 c.if-user.true)

pub returns : goal.returns
unfolding is_listed name_at part
returns c = rw (ne_eqb (byte c.args.e.now 0) 229 c.if-user.false, c.find.ensures.0)
