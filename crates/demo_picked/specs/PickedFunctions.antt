-- The functions that the arguments meet which the first segment of a path asks for.
use Rattle.demo_picked.specs.declared.picked.Picked.{Picked}
use Rattle.demo_picked.specs.PickedArguments.{picked_delay, picked_result}
use Rattle.demo_app.specs.ServiceFunctions.{ArgumentFunctions}

abbrev pub picked_arguments : ArgumentFunctions Picked
picked_arguments = record { delay = picked_delay; result = picked_result }
