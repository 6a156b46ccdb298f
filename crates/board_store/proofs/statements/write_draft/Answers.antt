-- The statement's parameters are those of the draft, each made by a call.
use Rattle.std.proofs.Common.{◌≡◌, [], ◌∷◌, rules, subst, subst₂}
use Rattle.sqlite.specs.Value.{owned}
use Rattle.sqlite.specs.Values.{bound_value}
use Rattle.sqlite.specs.declared.types.Value.TheVariants.{Int}
use Rattle.sqlite.specs.Held.{state}
use Rattle.sqlite.specs.State.{CommitsShowing, QueriesRow, Survives}
use Rattle.board_store.specs.Statements.{title_value}
use Rattle.board_store.proofs.statements.write_draft.Goals as goal

pub returns-clause-row : goal.returns-clause-row
returns-clause-row g c clean =
    let seats : bound_value (owned c.number_param-seats.result) ≡ Int c.args.draft.now.seats =
    search rules in
    subst (λ done. QueriesRow c.args.sql.now (bound_value (owned c.args.id)
    ∷ title_value c.args.draft.now.title ∷ Int c.args.draft.now.seats ∷ done ∷ [])
    (state g.S.Store c.args.conn.now) (state g.S.Store c.query_four.new.conn) c.query_four.result)
    c.truth_param-done.ensures
    (subst₂ (λ title seats. QueriesRow c.args.sql.now (bound_value (owned c.args.id)
    ∷ title ∷ seats ∷ bound_value (owned c.truth_param-done.result) ∷ [])
    (state g.S.Store c.args.conn.now) (state g.S.Store c.query_four.new.conn) c.query_four.result)
    c.title_param-title.ensures seats (c.query_four.ensures.row clean))

pub returns-clause-survives : goal.returns-clause-survives
returns-clause-survives g c =
    let seats : bound_value (owned c.number_param-seats.result) ≡ Int c.args.draft.now.seats =
    search rules in
    subst (λ done. Survives (state g.S.Store c.args.conn.now)
    (state g.S.Store c.query_four.new.conn) (CommitsShowing c.args.sql.now
    (bound_value (owned c.args.id) ∷ title_value c.args.draft.now.title
    ∷ Int c.args.draft.now.seats ∷ done ∷ []) (state g.S.Store c.args.conn.now)))
    c.truth_param-done.ensures
    (subst₂ (λ title seats. Survives (state g.S.Store c.args.conn.now)
    (state g.S.Store c.query_four.new.conn) (CommitsShowing c.args.sql.now
    (bound_value (owned c.args.id) ∷ title ∷ seats
    ∷ bound_value (owned c.truth_param-done.result) ∷ []) (state g.S.Store c.args.conn.now)))
    c.title_param-title.ensures seats c.query_four.ensures.survives)
