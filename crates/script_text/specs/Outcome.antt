-- What private functions answer: what is read, or the kind of what is at fault, unless memory runs out.
use Rattle.std.specs.Prelude.{◌≡◌, Bool, true, if◌then◌else◌, Result, Ok, Err, Option, Some, None}
use Rattle.script_text.specs.declared.refusal.Kind.{Kind}
use Rattle.script_text.specs.declared.refusal.LineError.{LineError}
use Rattle.script_text.specs.declared.refusal.LineError.TheVariants.{Bad, Memory}

-- a fault is the one that reading gives
abbrev pub Fails : {X : Type 0} → LineError → Result X Kind → Type 0
Fails (Bad k) read = read ≡ Err k
Fails Memory read = Unit {0}

-- the answer is what reading gives
abbrev pub Answers : {X : Type 0} → Result X LineError → Result X Kind → Type 0
Answers (Ok x) read = read ≡ Ok x
Answers (Err e) read = Fails e read

infixl 10 ◌>>=◌
-- what is read, and then what is read with it; the first fault is that of the whole
abbrev pub ◌>>=◌ : {X Y : Type 0} → Result X Kind → (X → Result Y Kind) → Result Y Kind
(Ok x) >>= f = f x
(Err k) >>= f = Err k

-- what is there and within its limit: a fault where nothing is, another where it is past the limit
abbrev pub judge : {X : Type 0} → Kind → Kind → (X → Bool) → Option X → Result X Kind
judge missing past is_within None = Err missing
judge missing past is_within (Some x) = if is_within x then Ok x else Err past

-- what is there, or this fault
abbrev pub or_fault : {X : Type 0} → Kind → Option X → Result X Kind
or_fault k o = judge k k (λ x. true) o
