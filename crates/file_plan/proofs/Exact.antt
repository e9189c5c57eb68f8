-- What the code of a call needs beside its definition: two paths whose names are tested one after the other, and answers that change nothing.
use Rattle.std.proofs.Common.{◌≡◌, Bool, true, false, cond, ◌&&◌, List, Option, Some, None, refl, ap}
use Rattle.version_model.specs.declared.answer.FileFault.TheVariants.{IsDir, BadName}
use Rattle.file_plan.specs.declared.state.Job.TheVariants.{Moves}
use Rattle.file_plan.specs.Names.{Name}
use Rattle.file_plan.specs.Plan.{refuses, walking_path}

-- the second path is tested first
pub two_paths : (a b : Bool) (from to taken : List Name) (o : Option (List Name)) → o ≡ cond b (Some to) None → o ≡ Some taken
    → cond a (walking_path from IsDir (Moves taken)) (refuses BadName) ≡ cond (a && b) (walking_path from IsDir (Moves to)) (refuses BadName)
two_paths true true from to taken o e f = let same : taken ≡ to = cc in ap (λ (t : List Name). walking_path from IsDir (Moves t)) same
two_paths false true from to taken o e f = refl
two_paths a false from to taken o e f = let no' : ⊥ = cc in absurd no'
