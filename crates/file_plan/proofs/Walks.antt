-- Walking a path, and reading the bucket of its last name.
use Rattle.std.proofs.Common.{◌≡◌, ℕ, suc, ◌+◌, ◌<◌, ◌≤◌, Bool, true, false, cond, List, [], ◌∷◌, length, Option, Some, None, refl, sym, subst, ap, ◌∙◌, arith}
use Rattle.std.specs.Prelude.{IfSome, unwrap_or}
use Rattle.std.specs.List.{list_all}
use Rattle.version_model.specs.declared.answer.Answer.{Answer}
use Rattle.version_model.specs.declared.answer.Answer.TheVariants.{File}
use Rattle.version_model.specs.declared.answer.FileFault.{FileFault}
use Rattle.version_model.specs.declared.answer.FileFault.TheVariants.{NoEntry, NotDir, BadName}
use Rattle.version_model.specs.declared.file_call.FileCall.{FileCall}
use Rattle.file_plan.specs.declared.node.Node.{Node}
use Rattle.file_plan.specs.Names.{Name, Row, is_good, is_directory, bucket_number, named, names_are_good}
use Rattle.file_plan.specs.declared.state.Job.{Job}
use Rattle.file_plan.specs.Plan.{walking, walking_path, walked, walked_to, looked, looked_at, start_named, start}
use Rattle.file_plan.specs.declared.state.PlanState.TheVariants.{Ends, Looks}
use Rattle.file_plan.specs.Tree.{Table, tree_of, IsEntry, IsBucket, Sound, Outcome, answered, refused, Place, placed, place_of, at_place, at_path, Meets, outcome_named, outcome}
use Rattle.file_plan.specs.Tree.Place.{At, Fails}
use Rattle.file_plan.specs.Driving.{World}
use Rattle.file_plan.proofs.Buckets.{bucket_back, named_each}
use Rattle.file_plan.proofs.Machine.{Post, Comes, ended, over, over_is, more_steps}
use Rattle.xfs_base.specs.declared.block.Ino.{Ino}
use Rattle.xfs_base.proofs.Booleans.{and_first, and_second}
use Rattle.file_plan.specs.declared.node.Kind.{Kind}
use Rattle.file_plan.specs.declared.node.Kind.TheVariants as kind
use Rattle.file_plan.specs.Calls.{root}
use Rattle.file_plan.specs.Names.{same_kind}

bucket_small : (name : Name) → bucket_number name < 8
bucket_small name = omega arith

-- the entries of the bucket of a name
pub bucket_at : (kinds : Ino → Option Kind) (t : Table) → Sound kinds t → (dir : Ino) (name : Name) → kinds dir ≡ Some kind.Directory
    → (rows : List Row) × IsBucket kinds (bucket_number name) (t dir (bucket_number name)) rows
bucket_at kinds t sound dir name fact = sound.directories dir (bucket_number name) fact (bucket_small name)

pub directory_is : (node : Node) → is_directory node ≡ true → node.kind ≡ kind.Directory
directory_is node h = by node.kind h
  where
    by : (k : Kind) → same_kind k kind.Directory ≡ true → k ≡ kind.Directory
    by kind.File h = let e : false ≡ true = h in cc
    by kind.Directory h = refl

pub file_is : (node : Node) → is_directory node ≡ false → node.kind ≡ kind.File
file_is node h = by node.kind h
  where
    by : (k : Kind) → same_kind k kind.Directory ≡ false → k ≡ kind.File
    by kind.File h = refl
    by kind.Directory h = let e : true ≡ false = h in cc

-- what is owed at the end of a path
abbrev pub Placed : (Ino → Option Kind) → World → Job → ℕ → Post → Place → Type 0
Placed kinds w job n Q (At dir name) = kinds dir ≡ Some kind.Directory → is_good name ≡ true → Comes n (Looks dir name job) w Q
Placed kinds w job n Q (Fails fault) = Q (File fault) w

step_into : (kinds : Ino → Option Kind) (w : World) (job : Job) (n m : ℕ) (Q : Post) (onto : Name) (rest : List Name) (more : Ino → Place)
    (go : (ino : Ino) → kinds ino ≡ Some kind.Directory → Placed kinds w job n Q (more ino) → Comes m (walking ino onto rest job) w Q)
    (node : Node) (b : Bool) → is_directory node ≡ b → kinds node.ino ≡ Some node.kind → Placed kinds w job n Q (cond b (more node.ino) (Fails NotDir))
    → Comes m (cond b (walking node.ino onto rest job) (Ends (File NotDir))) w Q
step_into kinds w job n m Q onto rest more go node true fact kept h = go node.ino (kept ∙ ap Some (directory_is node fact)) h
step_into kinds w job n m Q onto rest more go node false fact kept h = ended m (File NotDir) w Q h

step_to : (kinds : Ino → Option Kind) (w : World) (job : Job) (n m : ℕ) (Q : Post) (onto : Name) (rest : List Name) (more : Ino → Place)
    (go : (ino : Ino) → kinds ino ≡ Some kind.Directory → Placed kinds w job n Q (more ino) → Comes m (walking ino onto rest job) w Q)
    (o : Option Node) → IfSome o (λ node. kinds node.ino ≡ Some node.kind) → Placed kinds w job n Q (placed more o) → Comes m (walked_to onto rest job o) w Q
step_to kinds w job n m Q onto rest more go None kept h = ended m (File NoEntry) w Q h
step_to kinds w job n m Q onto rest more go (Some node) kept h = step_into kinds w job n m Q onto rest more go node (is_directory node) refl kept h

weaker : (P R : Node → Type 0) (o : Option Node) → ((node : Node) → P node → R node) → IfSome o P → IfSome o R
weaker P R None f h = tt
weaker P R (Some node) f h = f node h

-- a path is walked as the tree has it
pub walks : (kinds : Ino → Option Kind) (w : World) → Sound kinds w.value → (job : Job) (n : ℕ) (Q : Post) (dir : Ino) (name : Name) (rest : List Name)
    → kinds dir ≡ Some kind.Directory → list_all is_good (name ∷ rest) ≡ true
    → Placed kinds w job n Q (place_of (tree_of w.value) dir name rest) → Comes (over rest n) (walking dir name rest job) w Q
walks kinds w sound job n Q dir name [] fact good h = h fact (and_first (is_good name) true good)
walks kinds w sound job n Q dir name (onto ∷ rest) fact good h =
    let b = bucket_at kinds w.value sound dir name fact in
    let e = bucket_back kinds (bucket_number name) (w.value dir (bucket_number name)) b.0 b.1 in
    let kept = weaker (λ node. IsEntry kinds (bucket_number name) (name, node)) (λ node. kinds node.ino ≡ Some node.kind) (named name b.0)
    (λ node (entry : IsEntry kinds (bucket_number name) (name, node)). entry.kept) (named_each (IsEntry kinds (bucket_number name)) name b.0 b.1.each) in
    subst (λ (o : Option (List Row)). Placed kinds w job n Q (placed (λ ino. place_of (tree_of w.value) ino onto rest) (named name (unwrap_or o [])))
    → Comes (over rest n) (walked name onto rest job o) w Q) (sym e)
    (step_to kinds w job n (over rest n) Q onto rest (λ ino. place_of (tree_of w.value) ino onto rest)
    (λ ino i p. walks kinds w sound job n Q ino onto rest i (and_second (is_good name) (list_all is_good (onto ∷ rest)) good) p) (named name b.0) kept) h

-- what is owed at the end of a call
abbrev pub Owes : (Ino → Option Kind) → Table → Outcome → Post
Owes kinds before o given now = Meets kinds before o given now.value

-- nothing changed
pub unchanged : (kinds : Ino → Option Kind) (t : Table) (answer : Answer) → Sound kinds t → Meets kinds t (answered (tree_of t) answer) answer t
unchanged kinds t answer sound =
    record { said = refl; sound = sound; held = record { entries = λ dir name fact. refl; bytes = λ file fact. refl }; others = λ ino blk fact. refl }

pub unchanged_as : (kinds : Ino → Option Kind) (t : Table) (answer given : Answer) → given ≡ answer → Sound kinds t
    → Meets kinds t (answered (tree_of t) answer) given t
unchanged_as kinds t answer given same sound =
    record { said = same; sound = sound; held = record { entries = λ dir name fact. refl; bytes = λ file fact. refl }; others = λ ino blk fact. refl }

-- kinds are those before a call and later those after it
module _ (kinds later : Ino → Option Kind) (w : World) (sound : Sound kinds w.value) (after : Sound later w.value) where
  pub by_path : (job : Job) (n : ℕ) (at_root : FileFault) (does : Ino → Name → Outcome)
      → ((dir : Ino) (name : Name) → kinds dir ≡ Some kind.Directory → is_good name ≡ true
      → Comes (suc n) (Looks dir name job) w (Owes later w.value (does dir name)))
      → (path : List Name) → list_all is_good path ≡ true
      → Comes (length path + n) (walking_path path at_root job) w (Owes later w.value (at_path (tree_of w.value) at_root does path))
  by_path job n at_root does at [] good =
      ended (length {A = Name} [] + n) (File at_root) w (Owes later w.value (refused (tree_of w.value) at_root)) (unchanged later w.value (File at_root) after)
  by_path job n at_root does at (name ∷ rest) good =
      let Q = Owes later w.value (at_place (tree_of w.value) does (place_of (tree_of w.value) root name rest)) in
      let e = over_is rest (suc n) in
      let le : over rest (suc n) ≤ length (name ∷ rest) + n = omega (arith, e) in
      more_steps (over rest (suc n)) (length (name ∷ rest) + n) (walking root name rest job) w Q le
      (walks kinds w sound job (suc n) Q root name rest sound.root_is_directory good (owed (place_of (tree_of w.value) root name rest)))
    where
      owed : (p : Place) → Placed kinds w job (suc n) (Owes later w.value (at_place (tree_of w.value) does p)) p
      owed (At dir last) = λ fact fine. at dir last fact fine
      owed (Fails fault) = unchanged later w.value (File fault) after

  -- the last name's bucket is read; o is what the name leads to
  pub looks : (job : Job) (n : ℕ) (O : Option Node → Outcome) (dir : Ino) (name : Name) → kinds dir ≡ Some kind.Directory
      → ((rows : List Row) → IsBucket kinds (bucket_number name) (w.value dir (bucket_number name)) rows → (o : Option Node) → named name rows ≡ o
      → IfSome o (λ node. IsEntry kinds (bucket_number name) (name, node))
      → Comes n (looked_at dir name (w.ver dir (bucket_number name)) rows job o) w (Owes later w.value (O o)))
      → Comes (suc n) (Looks dir name job) w (Owes later w.value (O ((tree_of w.value).entries dir name)))
  looks job n O dir name fact does =
      let b = bucket_at kinds w.value sound dir name fact in
      let e = bucket_back kinds (bucket_number name) (w.value dir (bucket_number name)) b.0 b.1 in
      subst (λ (o : Option (List Row)). Comes n (looked dir name (w.ver dir (bucket_number name)) job o) w
      (Owes later w.value (O (named name (unwrap_or o []))))) (sym e)
      (does b.0 b.1 (named name b.0) refl (named_each (IsEntry kinds (bucket_number name)) name b.0 b.1.each))

  -- the names are tested first
  pub named_first : (c : FileCall) (ino : Ino) (m : ℕ)
      → (names_are_good c ≡ true → Comes m (start_named c ino) w (Owes later w.value (outcome_named w.value (tree_of w.value) c ino)))
      → Comes m (start c ino) w (Owes later w.value (outcome w.value c ino))
  named_first c ino m h =
      elim (names_are_good c) as
      (λ (b : Bool). names_are_good c ≡ b
      → Comes m (cond b (start_named c ino) (Ends (File BadName))) w
      (Owes later w.value (cond b (outcome_named w.value (tree_of w.value) c ino) (refused (tree_of w.value) BadName)))) [
        | true ↦ λ e. h e
        | false ↦ λ _. ended m (File BadName) w (Owes later w.value (refused (tree_of w.value) BadName)) (unchanged later w.value (File BadName) after)
      ] refl

  -- a refusal changes nothing
  pub refuses_with : (n : ℕ) (fault : FileFault) → Comes n (Ends (File fault)) w (Owes later w.value (refused (tree_of w.value) fault))
  refuses_with n fault = ended n (File fault) w (Owes later w.value (refused (tree_of w.value) fault)) (unchanged later w.value (File fault) after)
