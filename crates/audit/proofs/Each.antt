-- Words that are read one after the other.
use Rattle.std.proofs.Common.{List, ◌++◌, Result, Ok, Err}
use Rattle.script_text.specs.declared.refusal.Kind.{Kind}

-- what was read before, before what is read
abbrev pub behind : {A : Type 0} → List A → Result (List A) Kind → Result (List A) Kind
behind xs (Ok ys) = Ok (xs ++ ys)
behind xs (Err k) = Err k
