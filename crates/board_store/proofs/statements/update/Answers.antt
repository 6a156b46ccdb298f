-- The number is made a parameter by a call.
use Rattle.std.proofs.Common.{◌≡◌, ◌∷◌, rules, subst}
use Rattle.sqlite.specs.Value.{owned}
use Rattle.sqlite.specs.Values.{bound_value}
use Rattle.sqlite.specs.declared.types.Value.TheVariants.{Int}
use Rattle.sqlite.specs.Held.{state}
use Rattle.sqlite.specs.State.{CommitsShowing, QueriesRow, Survives}
use Rattle.board_store.specs.Statements.{draft_values, update_text}
use Rattle.board_store.proofs.statements.update.Goals as goal

pub returns-clause-row : goal.returns-clause-row
returns-clause-row g c clean =
    let number : bound_value (owned c.number_param-number.result) ≡ Int c.args.id = search rules in
    subst (λ id. QueriesRow update_text (id ∷ draft_values c.args.draft.now)
    (state g.S.Store c.args.conn.now) (state g.S.Store c.write_draft.new.conn)
    c.write_draft.result) number (c.write_draft.ensures.row clean)

pub returns-clause-survives : goal.returns-clause-survives
returns-clause-survives g c =
    let number : bound_value (owned c.number_param-number.result) ≡ Int c.args.id = search rules in
    subst (λ id. Survives (state g.S.Store c.args.conn.now)
    (state g.S.Store c.write_draft.new.conn) (CommitsShowing update_text
    (id ∷ draft_values c.args.draft.now) (state g.S.Store c.args.conn.now)))
    number c.write_draft.ensures.survives
