-- What is owed of logs alone, in a world whose logs keep their word and in one whose logs don't.
use Rattle.std.proofs.Common.{◌≡◌, Bool, true, false, refl}
use Rattle.token_protocol.specs.Premises.{Premise}

pub owed : (logs : Bool) (A : Type 0) → (logs ≡ true → A) → Premise logs A
owed true A f = f refl
owed false A f = tt

pub owed_on : (logs : Bool) (A B : Type 0) → (A → B) → Premise logs A → Premise logs B
owed_on true A B f a = f a
owed_on false A B f a = tt

pub owed_both : (logs : Bool) (A B C : Type 0) → (A → B → C) → Premise logs A → Premise logs B → Premise logs C
owed_both true A B C f a b = f a b
owed_both false A B C f a b = tt
