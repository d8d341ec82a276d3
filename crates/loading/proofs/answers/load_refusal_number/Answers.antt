-- A refusal of the file calls has their number.
use Rattle.loading.proofs.answers.load_refusal_number.Goals as goal

pub returns-in-File : goal.returns-in-File
returns-in-File c = rw c.in-File.is c.refusal_number.ensures
