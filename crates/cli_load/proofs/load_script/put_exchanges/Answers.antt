use Rattle.std.proofs.Common.{◌≡◌, ◌++◌, ◌+◌, ◌∙◌, ap, suc, arith}
use Rattle.cli_load.specs.Drawing.{drawn_of, next_state, state_after}
use Rattle.cli_load.specs.ScriptTexts.{exchange_text}
use Rattle.cli_load.proofs.RangeLemmas.{written_more}
use Rattle.cli_load.proofs.load_script.put_exchanges.Goals as goal

pub loop-preserved : goal.loop-preserved
loop-preserved c =
    let seed = c.args.load.seed in
    let k = c.loop.counter in
    let next : k + 1 ≡ suc k = omega arith in
    let state : c.next_state-state.result ≡ state_after seed (k + 1) =
    rw next (c.next_state-state.ensures ∙ ap next_state c.loop.invariant.state_is) in
    let drawn = c.drawn_of.ensures.value ∙ ap drawn_of state in
    record {
      text = written_more (λ j. exchange_text (drawn_of (state_after seed (j + 1)))) k
          c.args.out.now.items c.loop.out.items c.put_exchange.new.out.items c.loop.invariant.text
          (c.in_ok-put_exchange.ensures ∙ ap (λ d. c.loop.out.items ++ exchange_text d) drawn);
      state_is = state;
    }
