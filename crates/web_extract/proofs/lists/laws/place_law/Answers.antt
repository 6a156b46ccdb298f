use Rattle.web_extract.proofs.PerPlaceLemmas.{per_place3, per_place4}
use Rattle.web_extract.proofs.lists.laws.place_law.Goals as goal

pub returns-clause-three : goal.returns-clause-three
returns-clause-three g c = λ q m m1 m2 m3. per_place3 _ _ _

pub returns-clause-four : goal.returns-clause-four
returns-clause-four g c = λ q m m1 m2 m3 m4. per_place4 _ _ _ _
