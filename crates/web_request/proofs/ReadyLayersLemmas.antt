-- Layers stay ready where more that are ready stand after them.
use Rattle.std.proofs.Common.{suc, List, [], ◌∷◌, ◌++◌, ◌≡◌, refl, sym, ◌∙◌, ap, subst, arith}
use Rattle.std.specs.Prelude.{Option, None, Some}
use Rattle.std.specs.declared.rc.Rc.{Rc}
use Rattle.std.proofs.lemmas.List.{map-append}
use Rattle.std.proofs.lemmas.List.Elements.{All-append, All-cons, All-pop, All-push}
use Rattle.web_request.specs.ReadyLayers.{AllReady}
use Rattle.web_request.specs.Shared.{values, values_behind}
use Rattle.web_request.proofs.NearestLemmas.{behind-push}

module _ {L Z : Type 0} (ready : L → Type 0) where
  ready_list : (o : Option (Rc L Z)) (ls : List (Rc L Z)) → AllReady ready (values_behind o ls) → AllReady ready (values ls)
  ready_list None ls all = all
  ready_list (Some r) ls all = λ k d lt. all (suc k) d (omega (arith, lt))

  pub ready_behind : (o : Option (Rc L Z)) (ls ms ns : List (Rc L Z)) (r : Rc L Z) → ns ≡ ls ++ ms → AllReady ready (values_behind o ls) → ready r.value → AllReady ready (values ms)
      → AllReady ready (values_behind (Some r) ns)
  ready_behind o ls ms ns r e before here behind =
      All-cons ready r.value (values ns) here (subst (AllReady ready) (sym (ap values e ∙ map-append (λ x. x.value) ls ms)) (All-append ready (values ls) (values ms) (ready_list o ls before) behind))

  -- the last one, and those before it
  pub ready_last : (root : Option (Rc L Z)) (left before : List (Rc L Z)) (r : Rc L Z) (layer : L) → left ≡ before ++ r ∷ [] → layer ≡ r.value → AllReady ready (values_behind root left)
      → AllReady ready (values_behind root before) × ready layer
  ready_last root left before r layer is lent all =
      let split = All-pop ready (values_behind root before ++ r.value ∷ []) (values_behind root before) (Some r.value) refl (rw (sym (behind-push root before r), sym is) all) in
      (split.0, rw lent split.1)

  -- one more as the last one
  pub ready_pushed : (root : Option (Rc L Z)) (ls ms : List (Rc L Z)) (r : Rc L Z) → ms ≡ ls ++ r ∷ [] → AllReady ready (values_behind root ls) → ready r.value
      → AllReady ready (values_behind root ms)
  ready_pushed root ls ms r is before here =
      subst (AllReady ready) (sym (ap (values_behind root) is ∙ behind-push root ls r)) (All-push ready (values_behind root ls) r.value before here)
