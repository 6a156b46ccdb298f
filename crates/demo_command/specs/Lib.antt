pub mod PickedScripts
