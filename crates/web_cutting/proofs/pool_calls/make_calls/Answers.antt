use Rattle.std.proofs.Common.{◌≡◌, ◌∙◌, ◌++◌, ◌∷◌, [], ap, append-nil, append_assoc, sym}
use Rattle.std.proofs.lemmas.List.{nil_from_length}
use Rattle.std.proofs.lemmas.Result.{err_from_is_err_and}
use Rattle.std.specs.Vec.Iter.{into_iter_items}
use Rattle.web_cutting.specs.PoolCalls.{PoolInUse, after_call, after_calls, in_use}
use Rattle.web_cutting.proofs.PoolCallsLemmas.{calls_more, room_left, still_distinct}
use Rattle.web_cutting.proofs.pool_calls.make_calls.Goals as goal

pub make_call-requires : goal.make_call-requires
make_call-requires g c = record {
  counted = room_left (in_use c.args.pool.now c.args.held.now.items) (in_use c.loop-call.pool c.loop-call.held.items) c.args.calls.items
      c.loop-call.yielded (into_iter_items c.next.new.self) c.in-Some.call _ c.loop-call.invariant.so_far
      (ap (λ cs. c.loop-call.yielded ++ cs) (sym c.in-Some.ensures.steps.0) ∙ c.loop-call.invariant.rest) c.requires.counted;
}

pub loop-call-preserved : goal.loop-call-preserved
loop-call-preserved g c =
    let before = in_use c.args.pool.now c.args.held.now.items in
    record {
      so_far = c.in_ok-make_call.ensures.ok ∙ ap (λ (s : PoolInUse _ _ _). after_call s c.in-Some.call) c.loop-call.invariant.so_far
          ∙ sym (calls_more before c.loop-call.yielded c.in-Some.call);
      rest = append_assoc c.loop-call.yielded (c.in-Some.call ∷ []) (into_iter_items c.next.new.self)
          ∙ ap (λ cs. c.loop-call.yielded ++ cs) (sym c.in-Some.ensures.steps.0) ∙ c.loop-call.invariant.rest;
    }

pub returns-in_err-make_call-clause-stops : goal.returns-in_err-make_call-clause-stops
returns-in_err-make_call-clause-stops g c =
    let p = err_from_is_err_and c.from_residual.result c.from_residual.ensures.1 in
    rw p.1
    (record {
      done = c.loop-call.yielded;
      stopped = c.in-Some.call;
      rest = into_iter_items c.next.new.self;
      calls_are = sym c.loop-call.invariant.rest ∙ ap (λ cs. c.loop-call.yielded ++ cs) c.in-Some.ensures.steps.0;
      start = c.in_err-make_call.ensures.start;
      left = c.in_err-make_call.ensures.err ∙ c.loop-call.invariant.so_far;
    })

pub returns-in_err-make_call-clause-distinct : goal.returns-in_err-make_call-clause-distinct
returns-in_err-make_call-clause-distinct g c =
    still_distinct (in_use c.args.pool.now c.args.held.now.items) _ c.loop-call.yielded
    (c.in_err-make_call.ensures.err ∙ c.loop-call.invariant.so_far)

pub returns-clause-all : goal.returns-clause-all
returns-clause-all g c =
    let rest = into_iter_items c.loop-call.call-iterator in
    let none : rest ≡ [] = nil_from_length rest (sym c.loop-call.call-iterator.rest.ok.0 ∙ c.in-None.ensures.steps.0) in
    let whole : c.loop-call.yielded ≡ c.args.calls.items =
    sym (append-nil c.loop-call.yielded) ∙ ap (λ cs. c.loop-call.yielded ++ cs) (sym none) ∙ c.loop-call.invariant.rest in
    c.loop-call.invariant.so_far ∙ ap (λ cs. after_calls (in_use c.args.pool.now c.args.held.now.items) cs) whole

pub returns-clause-distinct : goal.returns-clause-distinct
returns-clause-distinct g c =
    still_distinct (in_use c.args.pool.now c.args.held.now.items) _ c.loop-call.yielded c.loop-call.invariant.so_far
