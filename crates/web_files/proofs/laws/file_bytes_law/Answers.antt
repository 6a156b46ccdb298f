use Rattle.web_files.proofs.PiecesLemmas.{sends_a_front, sends_all}
use Rattle.web_files.proofs.laws.file_bytes_law.Goals as goal

pub returns-clause-front : goal.returns-clause-front
returns-clause-front c = sends_a_front

pub returns-clause-all : goal.returns-clause-all
returns-clause-all c = sends_all
