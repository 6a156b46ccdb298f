-- The arguments that the first segment of a path asks for meet their functions.
use Rattle.std.proofs.Common.{◌≡◌, refl, subst, sym, ap}
use Rattle.std.specs.Prelude.{Result, Ok, Err}
use Rattle.web_reply.specs.Replies.{Fault}
use Rattle.demo_picked.specs.PickedArguments.{MeansPicked}
use Rattle.demo_picked.specs.declared.picked.Picked.{Picked}
use Rattle.demo_picked.proofs.PickedArgumentsLemmas.{picked_only}
use Rattle.demo_picked.specs.PickedFunctions.{picked_arguments}
use Rattle.demo_app.specs.ServiceFunctions.{ArgumentsMeet, ConvertsTo}

-- a result of the arguments is what it converts to
converts_to_itself : (x : Result Picked Fault) → ConvertsTo (λ e f. f ≡ e) x x
converts_to_itself (Ok v) = refl
converts_to_itself (Err e) = λ f is. ap Err (sym is)

pub picked_meets :
    ArgumentsMeet (λ q m rest n x. MeansPicked q m rest n x) (λ e f. f ≡ e) picked_arguments
picked_meets q m rest n x means =
    let once = picked_only q m rest n x means in
    (once.0, subst (λ y. ConvertsTo (λ e f. f ≡ e) x y) once.1 (converts_to_itself x))
