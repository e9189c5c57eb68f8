-- What is read in steps, taken apart.
use Rattle.std.proofs.Common.{◌≡◌, Bool, true, false, refl, sym, ◌∙◌, ap, inl, inr, ◌⊎◌, Option, Some, None, Result, Ok, Err, if◌then◌else◌}
use Rattle.script_text.specs.declared.refusal.Kind.{Kind}
use Rattle.script_text.specs.Outcome.{judge, ◌>>=◌}

-- an answer, and a fault
abbrev pub good : {X : Type 0} → X → Result X Kind
good x = Ok x

abbrev pub bad : {X : Type 0} → Kind → Result X Kind
bad k = Err k

pub same_ok : {X : Type 0} (x y : X) (r : Result X Kind) → r ≡ Ok x → r ≡ Ok y → x ≡ y
same_ok x y r e f = let g : good x ≡ good y = sym e ∙ f in cc

judge_at : {X : Type 0} (f l : Kind) (x y : X) (b : Bool) → (if b then good x else bad l) ≡ good y → (x ≡ y) × (b ≡ true)
judge_at f l x y true e = (cc, refl)
judge_at f l x y false e = absurd cc

pub judge_ok : {X : Type 0} (f l : Kind) (p : X → Bool) (o : Option X) (x : X) → judge f l p o ≡ Ok x → (o ≡ Some x) × (p x ≡ true)
judge_ok f l p None x e = absurd cc
judge_ok f l p (Some y) x e =
    let s = judge_at f l y x (p y) e in
    (ap Some s.0, sym (ap p s.0) ∙ s.1)

judge_past : {X : Type 0} (l k : Kind) (x : X) (b : Bool) → (if b then good x else bad l) ≡ bad k → (b ≡ false) × (k ≡ l)
judge_past l k x true e = absurd cc
judge_past l k x false e = (refl, cc)

pub judge_err : {X : Type 0} (f l : Kind) (p : X → Bool) (o : Option X) (k : Kind) → judge f l p o ≡ Err k
    → ((o ≡ None) × (k ≡ f)) ⊎ ((x : X) × (o ≡ Some x) × (p x ≡ false) × (k ≡ l))
judge_err f l p None k e = inl (refl, cc)
judge_err f l p (Some x) k e = let s = judge_past l k x (p x) e in inr (x, refl, s.0, s.1)

pub judge_good : {X : Type 0} (f l : Kind) (p : X → Bool) (o : Option X) (x : X) → o ≡ Some x → p x ≡ true → judge f l p o ≡ Ok x
judge_good f l p o x e h = rw (e, h) refl

pub judge_missing : {X : Type 0} (f l : Kind) (p : X → Bool) (o : Option X) → o ≡ None → judge f l p o ≡ Err f
judge_missing f l p o e = rw e refl

pub judge_over : {X : Type 0} (f l : Kind) (p : X → Bool) (o : Option X) (x : X) → o ≡ Some x → p x ≡ false → judge f l p o ≡ Err l
judge_over f l p o x e h = rw (e, h) refl

pub bind_ok : {X Y : Type 0} (r : Result X Kind) (f : X → Result Y Kind) (y : Y) → (r >>= f) ≡ Ok y → (x : X) × (r ≡ Ok x) × (f x ≡ Ok y)
bind_ok (Ok x) f y e = (x, refl, e)
bind_ok (Err k) f y e = absurd cc

pub bind_err : {X Y : Type 0} (r : Result X Kind) (f : X → Result Y Kind) (k : Kind) → (r >>= f) ≡ Err k → (r ≡ Err k) ⊎ ((x : X) × (r ≡ Ok x) × (f x ≡ Err k))
bind_err (Ok x) f k e = inr (x, refl, e)
bind_err {X} {Y} (Err j) f k e = inl (ap (λ i. bad {X = X} i) (err_of j k e))
  where
    err_of : (i m : Kind) → bad {X = Y} i ≡ bad m → i ≡ m
    err_of i m e = cc
