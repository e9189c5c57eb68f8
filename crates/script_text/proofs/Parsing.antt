-- What the answer of reading says of the grammar.
use Rattle.std.proofs.Common.{◌≡◌, ℕ, Bool, List, refl, ◌∙◌, ap, inl, inr, ◌⊎◌, Result, Ok, Err, IfOk, IfErr, MatchResult}
use Rattle.script_text.specs.declared.refusal.Kind.{Kind}
use Rattle.script_text.specs.declared.refusal.ScriptError.{ScriptError}
use Rattle.script_text.specs.declared.refusal.ScriptError.TheVariants.{Bad, Memory}
use Rattle.script_text.specs.declared.script.Script.{Script}
use Rattle.script_text.specs.Script.{IsScriptOf, IsFirstBad, HasCause}
use Rattle.script_text.specs.Reading.{read_script, AnswersScript}
use Rattle.script_text.proofs.Scripts.{script_ok, script_err, one_script, one_fault, never_both}

pub found : (live : Bool) (bytes : List ℕ) (r : Result Script ScriptError) → AnswersScript r (read_script live bytes) → IfOk r (λ s. IsScriptOf live bytes s)
found live bytes (Ok s) a = script_ok live bytes s a
found live bytes (Err e) a = tt

pub cause : (live : Bool) (bytes : List ℕ) (r : Result Script ScriptError) → AnswersScript r (read_script live bytes) → IfErr r (λ e. HasCause live bytes e)
cause live bytes (Ok s) a = tt
cause live bytes (Err (Bad n k)) a = script_err live bytes n k a
cause live bytes (Err Memory) a = tt

pub found_if_any : (live : Bool) (bytes : List ℕ) (r : Result Script ScriptError) → AnswersScript r (read_script live bytes) → (s : Script)
    → IsScriptOf live bytes s → MatchResult r (λ t. t ≡ s) (λ e. e ≡ Memory)
found_if_any live bytes (Ok t) a s h = one_script live bytes t s (script_ok live bytes t a) h
found_if_any live bytes (Err (Bad n k)) a s h = absurd (never_both live bytes s n k h (script_err live bytes n k a))
found_if_any live bytes (Err Memory) a s h = refl

pub refused_if_bad : (live : Bool) (bytes : List ℕ) (r : Result Script ScriptError) → AnswersScript r (read_script live bytes) → (n : ℕ) (k : Kind)
    → IsFirstBad live bytes n k → MatchResult r (λ t. ⊥) (λ e. (e ≡ Bad n k) ⊎ (e ≡ Memory))
refused_if_bad live bytes (Ok t) a n k h = never_both live bytes t n k (script_ok live bytes t a) h
refused_if_bad live bytes (Err (Bad m j)) a n k h =
    let f = one_fault live bytes m n j k (script_err live bytes m j a) h in
    inl (ap (λ x. Bad x j) f.0 ∙ ap (λ x. Bad n x) f.1)
refused_if_bad live bytes (Err Memory) a n k h = inr refl
