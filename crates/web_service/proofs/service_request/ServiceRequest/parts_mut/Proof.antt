-- The two fields are lent apart, under names of their own, and the whole ends as what they end as.
use mathlib.Core.Path.{◌≡◌, refl, sym}
use mathlib.Core.List.{List, [], ◌∷◌}
use Prim.Native.Nat.{ℕ, zero, ◌+◌}
use seplogic.Ra.Ura.{Ura}
use base.Fraction.{full_share}
use base.Logic.{SProp, ent, sep, ex, emp}
use base.Fml.{Fml, Lft, GName, Share, ftrue, flft, fobs, fbor}
use mir.Syntax.{Args, Dict, Fn, a_type, dcons, dnil, named}
use mir.MapTy.{inst_fn}
use mir.Val.{Val, vptr, vstruct, vcons, vnil}
use prog.Model.{Model}
use prog.Wired.{Wired}
use contract.Monad.{fact, fact_i}
use contract.Running.{Running}
use types.Logic.{Logic, sem}
use types.Kit.{‵, raw, ◌⊛◌, some, later, mean, ◌$◌, ◌∵◌, !, qed, by, done, move, keep, drop, use0, use1, use2, split, split3, join, group, fsplit3, fjoin, fjoin3, fpack, feq_i, pick, await, updating, now, show, rewrite, suffices}
use types.Run.{enter, addr, fld, stop, no_more, and_then, returns}
use types.Part.{agg}
use types.ByLocal.{alloc_all, pass_all, free_all, look_at, get, through, sets}
use types.Mut.{open_ref}
use types.SemTy.{Body}
use types.Follow.{after₂, takes_two}
use denote.RattleType.{RattleType, Valss}
use denote.Memory.{mem, part_at}
use denote.Model.Fields.{OwnsFields, plain_out, Plain-in, view_made}
use denote.Param.{param, bounded, layout}
use denote.Param.Laws.{Laws, param_laws}
use denote.Ref.{MutBor, MutRef, mut_vals, mut_Tells}
use denote.Signature.{plain}
use denote.Steps.{nothing}
use denote.Struct.Declared.{Declared, shape}
use denote.Struct.Loose.{lawfuls}
use denote.Struct.Struct.{within}
use denote.Struct.Tuple.{tuple_type}
use denote.Follow.{both_by, follows_both}
use denote.Triple.Clauses.{Clauses, Ended}
use denote.Triple.Spec.{Meets}
use denote.Triple.Walked.{Stays, walk_of, stay_dropped, Goes-spent_ref, ends_at}
use borrow.Enum.SameAs.{Enum-same}
use borrow.Tree.ForGood.{begins, ends}
use borrow.Tree.Place.{View, Bk, mems, cutⱽ, shutⱽ}
use Rattle.std.proofs.raw_atomic.Walks.{proved}
use Rattle.web_texts.specs.declared.memory.duplicate.Duplicate as Duplicate
use Rattle.web_request.specs.declared.app.App as App
use Rattle.web_request.specs.declared.app.AppLayer as AppLayer
use Rattle.web_request.specs.declared.source.Source as Source
use Rattle.web_request.specs.contracts.request.HttpRequest as request-type
use Rattle.web_body.specs.contracts.payload.Payload as payload-type
use Rattle.web_service.specs.contracts.service_request.ServiceRequest as service-type
use Rattle.web_service.specs.contracts.service_request.ServiceRequest.TheInside as inside-type
use Rattle.web_service.proofs.service_request.ServiceRequest.TheLaws as service-laws
use Rattle.web_service.proofs.service_request.ServiceRequest.TheInside.TheLaws as inside-laws
use Rattle.web_service.specs.contracts.service_request.ServiceRequest.parts_mut as f
use Rattle.web_service.proofs.service_request.ServiceRequest.parts_mut.Statement.{statement}
use Rattle.web_service.proofs.service_request.ServiceRequest.parts_mut.Code as code

-- the types of an application
module _ (A Layer Local Conn Feed : RattleType) (laws-app : Laws A) (laws-layer : Laws Layer) (laws-local : Laws Local) (laws-conn : Laws Conn) (laws-feed : Laws Feed)
    (layer : AppLayer.Ghosts Layer.Denot) (source : Source.Ghosts Feed.Denot) where
  abbrev Whole : RattleType
  Whole = service-type.the_row (param 0 A) (param 1 Layer) (param 2 Local) (param 3 Conn) (param 4 Feed) layer source

  abbrev Request : RattleType
  Request = request-type.the_row (param 0 A) (param 1 Layer) (param 2 Local) (param 3 Conn) (param 4 Feed) layer source

  abbrev Payload : RattleType
  Payload = payload-type.the_row (param 4 Feed)

  -- the struct as its author wrote it
  abbrev Inside : RattleType
  Inside = inside-type.the_row (param 0 A) (param 1 Layer) (param 2 Local) (param 3 Conn) (param 4 Feed) layer source

  abbrev struct : Declared
  struct = inside-type.the_type (param 0 A) (param 1 Layer) (param 2 Local) (param 3 Conn) (param 4 Feed) layer source

  abbrev opens : OwnsFields Whole Inside
  opens = service-laws.the_opens (param 0 A) (param 1 Layer) (param 2 Local) (param 3 Conn) (param 4 Feed) layer source

  abbrev first : View
  first = record {
    m = record { row = (request-type.the_field (param 0 A) (param 1 Layer) (param 2 Local) (param 3 Conn) (param 4 Feed) layer source).row; ty = layout Request };
    Own = Request;
    into = (request-type.the_field (param 0 A) (param 1 Layer) (param 2 Local) (param 3 Conn) (param 4 Feed) layer source).into;
    same = λ x b o. refl;
  }

  abbrev second : View
  second = record {
    m = record { row = (payload-type.the_field (param 4 Feed)).row; ty = layout Payload };
    Own = Payload;
    into = (payload-type.the_field (param 4 Feed)).into;
    same = λ x b o. sym (Enum-same (payload-type.the_type (param 4 Feed)) full_share x b o);
  }

  abbrev fields : List View
  fields = first ∷ second ∷ []

  -- where the fields begin
  abbrev d₁ : ℕ
  d₁ = begins first zero

  abbrev d₂ : ℕ
  d₂ = begins second (ends first zero)

  abbrev whole : Request.Denot → Payload.Denot → Whole.Denot
  whole request payload = record { request = request; payload = payload }

  module _ {M : Type 1} {𝓤 : Ura M} (𝓛 : Logic 𝓤) (κ : Lft) (q : Share) (b o : ℕ) (γ : GName) where
    open 𝓛 use {H, A as atoms}

    abbrev Rest : SProp 𝓤
    Rest = mean 𝓛 (Bk struct.name (mems fields) M 𝓤 𝓛 b o)

    out : (x : Whole.Denot) → ent 𝓤 (sem 𝓛 (part_at Whole full_share x b o)) (sep 𝓤 (sem 𝓛 (part_at Request full_share x.request b (o + d₁))) (sep 𝓤 (sem 𝓛 (part_at Payload full_share x.payload b (o + d₂))) Rest))
    out x = qed 𝓛 (‵ (part_at Whole full_share x b o) ∷ []) ∵
        use1 𝓛 (some (λ (y : (a : Inside.Denot) × opens.Known x a). ‵ (part_at Inside full_share y.0 b o))) (plain_out Whole Inside opens 𝓛 full_share x b o) $ pick ! (λ y.
        use1 𝓛 ((‵ (part_at Request full_share y.0.request b (o + d₁)) ⊛ ‵ (part_at Payload full_share y.0.payload b (o + d₂)) ⊛ ‵ ftrue) ⊛ raw Rest)
        (cutⱽ struct.name fields struct.D struct.to struct.to_one 𝓛
        (lawfuls 𝓛 struct.parts (inside-laws.the_loose (param 0 A) (param 1 Layer) (param 2 Local) (param 3 Conn) (param 4 Feed) layer source
        (param_laws 0 A laws-app) (param_laws 1 Layer laws-layer) (param_laws 2 Local laws-local) (param_laws 3 Conn laws-conn) (param_laws 4 Feed laws-feed)))
        (zero, []) y.0 (y.0.request, (y.0.payload, tt)) refl b o) $ split ! $ split3 ! $
        rewrite ! 0 (λ (z : Whole.Denot). ‵ (part_at Request full_share z.request b (o + d₁))) y.1.0 refl $
        rewrite ! 1 (λ (z : Whole.Denot). ‵ (part_at Payload full_share z.payload b (o + d₂))) y.1.0 refl $ keep ! (0 ∷ 1 ∷ 3 ∷ []) $ done !)

    back : (w : Request.Denot) (v : Payload.Denot) → ent 𝓤 (sep 𝓤 (sem 𝓛 (part_at Request full_share w b (o + d₁))) (sep 𝓤 (sem 𝓛 (part_at Payload full_share v b (o + d₂))) Rest)) (sem 𝓛 (part_at Whole full_share (whole w v) b o))
    back w v =
        let y : Inside.Denot = record { request = w; payload = v } in
        qed 𝓛 (‵ (part_at Request full_share w b (o + d₁)) ∷ ‵ (part_at Payload full_share v b (o + d₂)) ∷ raw Rest ∷ []) ∵
        nothing ! $ move ! (1 ∷ 2 ∷ 0 ∷ []) $ group ! 3 $
        use2 𝓛 (‵ (part_at Inside full_share y b o))
        (shutⱽ struct.name fields struct.D struct.to struct.to_one 𝓛 (λ z. record { request = z.0; payload = z.1.0 }) (λ z. refl) (zero, []) (w, (v, tt)) b o) $
        by ! (Plain-in Whole Inside opens 𝓛 full_share (whole w v) y (view_made Inside Whole.Denot Whole.coded
        (service-type.the_view (param 0 A) (param 1 Layer) (param 2 Local) (param 3 Conn) (param 4 Feed) layer source)
        (service-type.the_invariant (param 0 A) (param 1 Layer) (param 2 Local) (param 3 Conn) (param 4 Feed) layer source) 𝓛 (whole w v) y (refl, tt)) b o)

    abbrev one : Whole.Denot → GName × GName → MutBor Request.Denot
    one x γs = record { ref_ptr = (b, o + d₁); ghost_name = γs.0; now = x.request }

    abbrev two : Whole.Denot → GName × GName → MutBor Payload.Denot
    two x γs = record { ref_ptr = (b, o + d₂); ghost_name = γs.1; now = x.payload }

    abbrev Two : Whole.Denot → GName × GName → SProp 𝓤
    Two x γs = sep 𝓤 (sem 𝓛 ((MutRef (named 0) κ Request).own_val (one x γs) (vptr b (o + d₁) ∷ [])))
        (sep 𝓤 (sem 𝓛 ((MutRef (named 0) κ Payload).own_val (two x γs) (vptr b (o + d₂) ∷ []))) (sep 𝓤 (atoms.lft κ q) (sem 𝓛 (follows_both Whole Request Payload γ γs.0 γs.1 whole))))

    lends : (x : Whole.Denot) (vs : List Val) → ent 𝓤 (sep 𝓤 (sem 𝓛 ((MutRef (named 0) κ Whole).own_val (record { ref_ptr = (b, o); ghost_name = γ; now = x }) vs)) (atoms.lft κ q)) (H.⇛ (ex 𝓤 (Two x)))
    unfolding both_by
    lends x vs =
        qed 𝓛 (‵ ((MutRef (named 0) κ Whole).own_val (record { ref_ptr = (b, o); ghost_name = γ; now = x }) vs) ∷ ‵ (flft κ q) ∷ []) ∵ updating ! $ fsplit3 ! $ drop ! $
        open_ref ! tt (mem Whole) {x = x} {b = b} {o = o} $
        use1 𝓛 (‵ (part_at Request full_share x.request b (o + d₁)) ⊛ ‵ (part_at Payload full_share x.payload b (o + d₂)) ⊛ raw Rest) (out x) $ split3 ! $
        move ! (3 ∷ 4 ∷ 5 ∷ 0 ∷ 1 ∷ 2 ∷ []) $ group ! 6 $
        use1 𝓛 (later (some (λ (γs : GName × GName). (‵ (fobs γs.0 (Request.coded.code x.request)) ⊛ ‵ (fbor κ (Body (mem Request) b (o + d₁) γs.0)))
        ⊛ (‵ (fobs γs.1 (Payload.coded.code x.payload)) ⊛ ‵ (fbor κ (Body (mem Payload) b (o + d₂) γs.1))) ⊛ ‵ (flft κ q) ⊛ ‵ (after₂ (mem Whole) (mem Request) (mem Payload) γ γs.0 γs.1 whole))))
        (takes_two 𝓛 (mem Whole) (mem Request) (mem Payload) whole κ q b o b (o + d₁) b (o + d₂) γ Rest back (Whole.coded.code x) (Whole.coded.code x) x.request x.payload) $ await ! tt $ pick ! (λ γs. split3 ! $
        split ! $ feq_i ! (List Val) (vptr b (o + d₁) ∷ []) (vptr b (o + d₁) ∷ []) refl $ fjoin3 ! $ move ! (1 ∷ []) $
        split ! $ feq_i ! (List Val) (vptr b (o + d₂) ∷ []) (vptr b (o + d₂) ∷ []) refl $ fjoin3 ! $ move ! (1 ∷ 0 ∷ []) $ now ! $ show ! (Two x) γs $ done !)

  module _ {M : Type 1} {𝓤 : Ura M} (𝓛 : Logic 𝓤) (𝓜 : Model 𝓤 𝓛.H) (𝓡 : Running 𝓤 𝓛.H 𝓜) (wired : Wired 𝓡.env code.code)
      (app : App.Ghosts A.Denot Layer.Denot Local.Denot Conn.Denot Feed.Denot) (app-dict : Dict) (layer-dict : Dict)
      (local : Duplicate.Ghosts Local.Denot) (local-dict source-dict e₁ e₂ e₃ e₄ : Dict) where
    abbrev args : Args
    args = bounded (a_type ∷ a_type ∷ a_type ∷ a_type ∷ a_type ∷ []) (A, (Layer, (Local, (Conn, (Feed, tt)))))
        (dcons app-dict (dcons layer-dict (dcons local-dict (dcons source-dict (dcons e₁ (dcons e₂ (dcons e₃ (dcons e₄ dnil))))))))

    abbrev ended : Ended
    ended = f.ended A Layer Local Conn Feed app app-dict layer layer-dict local local-dict source source-dict e₁ e₂ e₃ e₄

    abbrev clauses : Clauses 𝓤 ended
    clauses = f.clauses A Layer Local Conn Feed app app-dict layer layer-dict local local-dict source source-dict e₁ e₂ e₃ e₄ 𝓛 𝓜.mem 𝓡.returns

    abbrev stayed : Stays ended.signature.params ended.kept
    stayed = (stay_dropped _ _, tt)

    met : Meets 𝓛 ended.signature (𝓡.run (𝓡.env (f.Key.name args))) (f.spec A Layer Local Conn Feed app app-dict layer layer-dict local local-dict source source-dict e₁ e₂ e₃ e₄ 𝓛 𝓜.mem 𝓡.returns)
    met =
        proved 𝓛 ended stayed clauses 𝓜 𝓡 (Goes-spent_ref 𝓛 6 (0 ∷ []) tt (plain (λ _. Whole)), tt) (f.Key.name args) (inst_fn args code.function)
        (code.unfolded 𝓤 𝓛.H 𝓜 𝓡 wired (A, (Layer, (Local, (Conn, (Feed, tt))))) app-dict layer-dict local-dict source-dict e₁ e₂ e₃ e₄)
        (λ κs. (mut_vals, tt)) (λ κs. (mut_Tells (named 0) κs.0 Whole, tt)) (λ κs qs bounds a ghost are.
        let κ = κs.0 in let q = qs.0 in let b = a.0.ref_ptr.0 in let o = a.0.ref_ptr.1 in let γ = a.0.ghost_name in let x = a.0.now in
        let y : (walk_of 𝓛 ended stayed clauses).Ghost = ((κs, qs, bounds, a, (mut_vals a.0, tt)), ghost) in
        let v : Val = vstruct (vcons (vptr b (o + d₁)) (vcons (vptr b (o + d₂)) vnil)) in
        let Pair : List RattleType = MutRef (named 0) κ Request ∷ MutRef (named 0) κ Payload ∷ [] in
        qed 𝓛 (((‵ (flft κ q) ⊛ (‵ (flft κs.1.0 qs.1.0) ⊛ ‵ (flft κs.1.1.0 qs.1.1.0) ⊛ ‵ (flft κs.1.1.1.0 qs.1.1.1.0) ⊛ ‵ (flft κs.1.1.1.1.0 qs.1.1.1.1.0) ⊛ ‵ (flft κs.1.1.1.1.1.0 qs.1.1.1.1.1.0) ⊛ ‵ ftrue))
        ⊛ ‵ ((MutRef (named 0) κ Whole).own_val a.0 (mut_vals a.0)) ⊛ ‵ ftrue) ∷ raw ((clauses κs a).requires ghost) ∷ []) ∵
        split ! $ split ! $ move ! (2 ∷ []) $ split ! $ keep ! (0 ∷ 2 ∷ 3 ∷ []) $
        enter ! _ _ _ _ _ $ alloc_all ! (λ l. pass_all ! refl ((tt, tt), tt) $
        -- [self; the token of its lifetime; the other tokens; the locals]
        sets ! (addr ! (through ! refl (fld ! refl (stop !)))) refl (tt, tt) $
        sets ! (addr ! (through ! refl (fld ! refl (stop !)))) refl (tt, tt) $
        sets ! (agg ! (and_then ! (get ! refl) (and_then ! (get ! refl) (no_more !)))) refl (tt, (tt, (tt, tt))) $
        use2 𝓛 (later (some (λ (γs : GName × GName). ‵ ((MutRef (named 0) κ Request).own_val (one 𝓛 κ q b o γ x γs) (vptr b (o + d₁) ∷ []))
        ⊛ ‵ ((MutRef (named 0) κ Payload).own_val (two 𝓛 κ q b o γ x γs) (vptr b (o + d₂) ∷ [])) ⊛ ‵ (flft κ q) ⊛ ‵ (follows_both Whole Request Payload γ γs.0 γs.1 whole)))) (lends 𝓛 κ q b o γ x (mut_vals a.0)) $
        await ! tt $ pick ! (λ γs. split3 ! $
        nothing ! $ move ! (2 ∷ 0 ∷ []) $ fjoin ! $ move ! (1 ∷ 0 ∷ []) $ fjoin ! $ feq_i ! (List Val) (v ∷ []) (v ∷ []) refl $ fjoin ! $
        fpack ! (Valss Pair) (within (shape (tuple_type Pair)) (one 𝓛 κ q b o γ x γs, (two 𝓛 κ q b o γ x γs, tt)) (v ∷ [])) (vptr b (o + d₁) ∷ [], (vptr b (o + d₂) ∷ [], tt)) $
        -- [the result; the token and what follows; the other tokens; the locals]
        move ! (1 ∷ []) $ split ! $ move ! (0 ∷ 3 ∷ []) $ join ! $
        returns ! (look_at ! 0 refl) $ free_all ! refl $
        suffices ! _ (ends_at 𝓛 ended stayed clauses y v (one 𝓛 κ q b o γ x γs, two 𝓛 κ q b o γ x γs) (tt, tt) (tt, tt)) $
        use0 𝓛 (raw (fact 𝓤 (x.payload ≡ x.payload))) (fact_i 𝓤 _ (emp 𝓤) refl) $ use0 𝓛 (raw (fact 𝓤 (x.request ≡ x.request))) (fact_i 𝓤 _ (emp 𝓤) refl) $ join ! $
        move ! (2 ∷ 0 ∷ []) $ join ! $ move ! (2 ∷ 1 ∷ []) $ nothing ! $ nothing ! $ fjoin ! $ join ! $ move ! (1 ∷ 0 ∷ []) $ join ! $ done !)))

pub parts_mut_spec : {M : Type 1} → statement M
parts_mut_spec 𝓤 𝓛 𝓜 𝓡 wired A Layer Local Conn Feed laws-app laws-layer laws-local laws-conn laws-feed app app-dict layer layer-dict local local-dict source source-dict e₁ e₂ e₃ e₄ _ _ _ _ _ _ _ _ =
    met A Layer Local Conn Feed laws-app laws-layer laws-local laws-conn laws-feed layer source 𝓛 𝓜 𝓡 wired app app-dict layer-dict local local-dict source-dict e₁ e₂ e₃ e₄
