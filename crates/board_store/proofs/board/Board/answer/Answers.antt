use Rattle.std.proofs.Common.{◌≡◌}
use Rattle.board_store.proofs.board.Board.answer.Goals as goal

-- src/answering.rt:13:5
pub returns-in-Err-add-clause-answers : goal.returns-in-Err-add-clause-answers
returns-in-Err-add-clause-answers g c =
    rw c.in-Add.is (c.in-Err-add.ensures.full, c.in-Err-add.ensures.adds)
