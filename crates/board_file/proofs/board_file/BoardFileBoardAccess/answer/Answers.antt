-- The board that was taken or opened is the one that answers.
use Rattle.std.proofs.Common.{inl}
use Rattle.board_file.proofs.board_file.BoardFileBoardAccess.answer.Goals as goal

-- src/board_file.rt:98:5
pub returns-in-Ok : goal.returns-in-Ok
returns-in-Ok c =
    inl (
      c.in-Ok.board,
      c.answer-answer.new.self,
      c.in-Ok.ensures.board,
      c.answer-answer.ensures,
      c.put_back.ensures,
    )
