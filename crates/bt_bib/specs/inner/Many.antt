-- What a loop has read, together with what is read after it.
use Rattle.std.specs.Prelude.{List, ◌++◌, Result}
use Rattle.bt_bib.specs.Spot.{Here}
use Rattle.bt_bib.specs.Stop.{Stop}

-- some, and all that were read after them
abbrev pub gathered : {A : Type 0} → List A → List A × Result Here Stop → List A × Result Here Stop
gathered front others = (front ++ others.0, others.1)
