-- Line by line the table of the one machine holds a tree: no raw block is one of the tree, and no number that a later call may make is taken.
use Rattle.std.proofs.Common.{◌≡◌, ◌⊎◌, ℕ, zero, suc, ◌+◌, ◌<◌, ◌≤◌, Bool, true, cond, ◌&&◌, ◌==◌, List, [], ◌∷◌, ◌++◌, inl, inr, length, length-append, Option, Some, None, refl, sym, ap, subst, ◌∙◌, arith}
use Rattle.std.specs.Prelude.{◌≢◌}
use Rattle.std.specs.List.{count_by}
use Rattle.std.proofs.lemmas.List.Sums.{count_by-le-length, sum_by-append, sum_by-cons}
use Rattle.std.proofs.lemmas.List.{length-map}
use Rattle.file_plan.proofs.Frames.{apart_kinds, eq_cases, file_same, ino_differs, some_nobody}
use Rattle.file_plan.specs.Calls.{root}
use Rattle.file_plan.specs.declared.block_call.BlockAnswer.{BlockAnswer}
use Rattle.file_plan.specs.declared.block_call.Next.{Next}
use Rattle.file_plan.specs.declared.block_call.Next.TheVariants.{Step, Reply}
use Rattle.file_plan.specs.declared.node.Kind.{Kind}
use Rattle.file_plan.specs.declared.node.Kind.TheVariants as kind
use Rattle.file_plan.specs.Driving.{AllMeetFromNothing, GoesOn, MeetsTree, Replies, Rests, World, most_steps, nothing_written, root_alone, serve, write}
use Rattle.file_plan.specs.Example.{Ended, driven}
use Rattle.file_plan.specs.Plan.{made_by, plan}
use Rattle.file_plan.specs.Tree.{IsFresh, MakesFresh, Meets, Sound, Table, kinds_after, outcome}
use Rattle.script_text.specs.declared.script.Line.{Line}
use Rattle.transcript.specs.Text.{number_of}
use Rattle.version_model.specs.declared.answer.Answer.{Answer}
use Rattle.version_model.specs.declared.file_call.FileCall.{FileCall}
use Rattle.version_model.specs.declared.file_call.FileCall.TheVariants as call
use Rattle.version_model.specs.declared.work.Work.{Work}
use Rattle.version_model.specs.declared.work.Work.TheVariants as work
use Rattle.version_model.specs.History.{Content}
use Rattle.world_base.specs.Items.{actor_of, is_for, works_of}
use Rattle.xfs_base.proofs.NodeOrder.{same_node_itself}
use Rattle.xfs_base.specs.Blocks.{IsRaw}
use Rattle.xfs_base.specs.declared.block.BlockId.{BlockId}
use Rattle.xfs_base.specs.declared.block.Ino.{Ino}
use Rattle.xfs_base.specs.declared.node.NodeId.TheVariants.{Client}
use Rattle.xfs_base.specs.Limits.{max_lines}
use Rattle.one_machine.specs.Machine.{after_line, call_on}
use Rattle.one_machine.specs.Trees.{AreFit, EachScriptKeepsTheTree, IsFit, KeepTheTree, RepliesAsTree}

-- ---- a plan is driven to its reply

record EndsSo (e : Ended) (Q : Answer → World → Type 0) : Type 0 where
  given : Answer
  is : e.reply ≡ Some given
  so : Q given e.world

abbrev driven_by : Next → World → (BlockAnswer → World → Ended) → Ended
driven_by (Reply answer) w more = record { reply = Some answer; world = w }
driven_by (Step step) w more = more (serve w step).answer (serve w step).world

module _ (Q : Answer → World → Type 0) where
  rests_so : (x : Next) (w : World) (more : BlockAnswer → World → Ended) → Rests x w Q → EndsSo (driven_by x w more) Q
  rests_so (Reply answer) w more so = record { given = answer; is = refl; so = so }
  rests_so (Step step) w more so = absurd so

  goes_so : (x : Next) (w : World) (more : BlockAnswer → World → Ended) (Then : BlockAnswer → World → Type 0)
      → ((a : BlockAnswer) (v : World) → Then a v → EndsSo (more a v) Q) → GoesOn x w Q Then → EndsSo (driven_by x w more) Q
  goes_so (Reply answer) w more Then later so = record { given = answer; is = refl; so = so }
  goes_so (Step step) w more Then later so = later (serve w step).answer (serve w step).world so

  -- one step more than it makes suffices
  driven_is : (p : List BlockAnswer → Next) (n : ℕ) (answers : List BlockAnswer) (w : World)
      → driven p (suc n) answers w ≡ driven_by (p answers) w (λ a v. driven p n (answers ++ a ∷ []) v)
  driven_is p n answers w = by (p answers) refl
    where
      by : (x : Next) → p answers ≡ x → driven p (suc n) answers w ≡ driven_by x w (λ a v. driven p n (answers ++ a ∷ []) v)
      by (Reply answer) is = rw (is, driven) refl
      by (Step step) is = rw (is, driven) refl

  drives : (p : List BlockAnswer → Next) (n : ℕ) (answers : List BlockAnswer) (w : World) → Replies p n answers w Q → EndsSo (driven p (suc n) answers w) Q
  drives p zero answers w so =
      subst (λ e. EndsSo e Q) (sym (driven_is p zero answers w)) (rests_so (p answers) w (λ a v. driven p zero (answers ++ a ∷ []) v) so)
  drives p (suc n) answers w so =
      subst (λ e. EndsSo e Q) (sym (driven_is p (suc n) answers w))
      (goes_so (p answers) w (λ a v. driven p (suc n) (answers ++ a ∷ []) v) (λ a v. Replies p n (answers ++ a ∷ []) v Q)
      (λ a v so. drives p n (answers ++ a ∷ []) v so) so)

-- ---- index numbers

made_apart : (n c m d : ℕ) → 1 ≤ c → c ≤ 8 → 1 ≤ d → d ≤ 8 → (n < m) ⊎ ((c ≡ d) → ⊥) → made_by m d ≢ made_by n c
made_apart n c m d lc hc ld hd (inl less) e = let g = ap (λ (x : Ino). x.0) e in omega (arith, lc, hc, ld, hd, g, less)
made_apart n c m d lc hc ld hd (inr differs) e =
    let g = ap (λ (x : Ino). x.0) e in let same : c ≡ d = omega (arith, lc, hc, ld, hd, g) in differs same

raw_apart : (ino : Ino) (n c : ℕ) → IsRaw ino.0 → 1 ≤ c → c ≤ 8 → made_by n c ≢ ino
raw_apart ino n c raw least most e =
    let g = ap (λ (x : Ino). x.0) e in let creator = raw.1 in omega (arith, least, most, g, creator)

raw_no_root : (ino : Ino) → IsRaw ino.0 → ino ≢ root
raw_no_root ino raw e = let g = ap (λ (x : Ino). x.0) e in let some = raw.0 in omega (arith, some, g)

kinds_else : (kinds : Ino → Option Kind) (ino : Ino) (c : FileCall) (i : Ino) → i ≢ ino → kinds_after kinds ino c i ≡ kinds i
kinds_else kinds ino (call.Mk path) i h = ap (λ (b : Bool). cond b (Some kind.File) (kinds i)) (ino_differs i ino h)
kinds_else kinds ino (call.Mkdir path) i h = ap (λ (b : Bool). cond b (Some kind.Directory) (kinds i)) (ino_differs i ino h)
kinds_else kinds ino (call.Put path offset bytes) i h = refl
kinds_else kinds ino (call.Get path offset len) i h = refl
kinds_else kinds ino (call.Size path) i h = refl
kinds_else kinds ino (call.Ls path) i h = refl
kinds_else kinds ino (call.Rm path) i h = refl
kinds_else kinds ino (call.Mv from to) i h = refl

makes_fresh : (kinds : Ino → Option Kind) (t : Table) (ino : Ino) (c : FileCall) → IsFresh kinds t ino → MakesFresh kinds t ino c
makes_fresh kinds t ino (call.Mk path) h = h
makes_fresh kinds t ino (call.Mkdir path) h = h
makes_fresh kinds t ino (call.Put path offset bytes) h = tt
makes_fresh kinds t ino (call.Get path offset len) h = tt
makes_fresh kinds t ino (call.Size path) h = tt
makes_fresh kinds t ino (call.Ls path) h = tt
makes_fresh kinds t ino (call.Rm path) h = tt
makes_fresh kinds t ino (call.Mv from to) h = tt

-- ---- a block of nobody is written

elsewhere : (w : World) (ino : Ino) (blk : ℕ) (value : Content) (i : Ino) (b : ℕ) → i ≢ ino → (write w ino blk value).value i b ≡ w.value i b
elsewhere w ino blk value i b h = ap (λ t. cond (t && (b == blk)) value (w.value i b)) (ino_differs i ino h)

sound_still : (kinds : Ino → Option Kind) (w : World) (ino : Ino) (blk : ℕ) (value : Content) → kinds ino ≡ None → Sound kinds w.value
    → Sound kinds (write w ino blk value).value
sound_still kinds w ino blk value nobody sound = record {
  root_is_directory = sound.root_is_directory;
  directories = λ dir bucket fact small.
      let old = sound.directories dir bucket fact small in
      (old.0, record { text = elsewhere w ino blk value dir bucket (apart dir kind.Directory fact) ∙ old.1.text; rising = old.1.rising; each = old.1.each });
  files = λ file fact.
      let old = sound.files file fact in
      (old.0, file_same w.value (write w ino blk value).value file old.0 (λ b. elsewhere w ino blk value file b (apart file kind.File fact)) old.1);
}
  where
    apart : (i : Ino) (k : Kind) → kinds i ≡ Some k → i ≢ ino
    apart i k fact = apart_kinds kinds i ino (Some k) None fact nobody (some_nobody k)

-- ---- lines

abbrev begun : List Line → ℕ → ℕ
begun before c = count_by (is_for (Client c)) (works_of before)

works_more : (before : List Line) (line : Line) → works_of (before ++ line ∷ []) ≡ works_of before ++ line.work ∷ []
works_more [] line = refl
works_more (l ∷ before) line = ap (λ ws. l.work ∷ ws) (works_more before line)

begun_more : (before : List Line) (line : Line) (c : ℕ) → begun (before ++ line ∷ []) c ≡ begun before c + cond (is_for (Client c) line.work) 1 0
begun_more before line c =
    let all : begun (before ++ line ∷ []) c ≡ count_by (is_for (Client c)) (works_of before ++ line.work ∷ []) =
    ap (count_by (is_for (Client c))) (works_more before line) in
    let both : count_by (is_for (Client c)) (works_of before ++ line.work ∷ []) ≡ begun before c + count_by (is_for (Client c)) (line.work ∷ []) =
    sum_by-append (λ w. cond (is_for (Client c) w) 1 0) (works_of before) (line.work ∷ []) in
    let one : count_by (is_for (Client c)) (line.work ∷ []) ≡ cond (is_for (Client c) line.work) 1 0 + count_by (is_for (Client c)) [] =
    sum_by-cons (λ w. cond (is_for (Client c) w) 1 0) line.work [] in
    let none : count_by (is_for (Client c)) [] ≡ 0 = refl in
    omega (arith, all, both, one, none)

-- what stands behind some lines
record Stands (kinds : Ino → Option Kind) (w : World) (before : List Line) : Type 0 where
  sound : Sound kinds w.value
  -- a number that a later call may make is nobody's
  fresh : (n c : ℕ) → 1 ≤ c → c ≤ 8 → n ≤ max_lines → begun before c < n → IsFresh kinds w.value (made_by n c)
  -- and so is each number of a raw file
  raw : (ino : Ino) → IsRaw ino.0 → kinds ino ≡ None

no_less : (before : List Line) (line : Line) (c : ℕ) → begun before c ≤ begun (before ++ line ∷ []) c
no_less before line c = let more = begun_more before line c in omega (arith, more)

-- a line that leaves the table as it is
stands_still : (kinds : Ino → Option Kind) (w : World) (before : List Line) (line : Line) → Stands kinds w before → Stands kinds w (before ++ line ∷ [])
stands_still kinds w before line s = record {
  sound = s.sound;
  fresh = λ n c least most few later. let less = no_less before line c in s.fresh n c least most few (omega (arith, less, later));
  raw = s.raw;
}

-- one that writes a raw block
stands_written : (kinds : Ino → Option Kind) (w : World) (before : List Line) (line : Line) (block : BlockId) (value : Content) → IsRaw block.ino.0
    → Stands kinds w before → Stands kinds (write w block.ino block.blk value) (before ++ line ∷ [])
stands_written kinds w before line block value raw s = record {
  sound = sound_still kinds w block.ino block.blk value (s.raw block.ino raw) s.sound;
  fresh = λ n c least most few later.
      let less = no_less before line c in
      let f : IsFresh kinds w.value (made_by n c) = s.fresh n c least most few (omega (arith, less, later)) in
      record {
        nobody = f.nobody;
        unwritten = λ blk. elsewhere w block.ino block.blk value (made_by n c) blk (raw_apart block.ino n c raw least most) ∙ f.unwritten blk;
        fits = f.fits;
      };
  raw = s.raw;
}

-- one that is a call on files
module _ (meets : (c : FileCall) → MeetsTree c) (kinds : Ino → Option Kind) (w : World) (before : List Line) (line : Line) (client : ℕ) (its_call : FileCall)
    (is : line.work ≡ work.File client its_call) (least : 1 ≤ client) (most : client ≤ 8) (few : length before < max_lines) (s : Stands kinds w before) where
  counted : number_of before (Client client) ≡ begun before client + 1
  counted =
      let many = count_by-le-length (is_for (Client client)) (works_of before) in
      let long = length-map before (λ (l : Line). l.work) in
      omega (arith, many, long, few)

  small : begun before client < number_of before (Client client)
  small = let c = counted in omega (arith, c)

  in_range : number_of before (Client client) ≤ max_lines
  in_range =
      let c = counted in
      let many = count_by-le-length (is_for (Client client)) (works_of before) in
      let long = length-map before (λ (l : Line). l.work) in
      omega (arith, c, many, long, few)

  abbrev ino : Ino
  ino = made_by (number_of before (Client client)) client

  abbrev then_kinds : Ino → Option Kind
  then_kinds = kinds_after kinds ino its_call

  abbrev IsMet : Answer → World → Type 0
  IsMet given now = Meets then_kinds w.value (outcome w.value its_call ino) given now.value

  ends : EndsSo (call_on w (number_of before (Client client)) (work.File client its_call)) IsMet
  ends =
      subst (λ n. EndsSo (driven (plan its_call (number_of before (Client client)) client) n [] w) IsMet) (more (most_steps its_call))
      (drives IsMet (plan its_call (number_of before (Client client)) client) (most_steps its_call) [] w
      (meets its_call kinds w (number_of before (Client client)) client s.sound
      (makes_fresh kinds w.value ino its_call (s.fresh (number_of before (Client client)) client least most in_range small))))
    where
      more : (n : ℕ) → suc n ≡ n + 1
      more n = omega arith

  own : is_for (Client client) line.work ≡ true
  own = ap (is_for (Client client)) is ∙ same_node_itself (Client client)

  stands_met : (given : Answer) (now : World) → IsMet given now → Stands then_kinds now (before ++ line ∷ [])
  stands_met given now met = record {
    sound = met.sound;
    fresh = λ n c lc hc some later. fresh_then n c lc hc some later;
    raw = λ i raw. kinds_else kinds ino its_call i (λ e. raw_apart i (number_of before (Client client)) client raw least most (sym e)) ∙ s.raw i raw;
  }
    where
      fresh_then : (n c : ℕ) → 1 ≤ c → c ≤ 8 → n ≤ max_lines → begun (before ++ line ∷ []) c < n → IsFresh then_kinds now.value (made_by n c)
      fresh_then n c lc hc some later = record {
        nobody = nobody;
        unwritten = λ blk. met.others (made_by n c) blk nobody ∙ f.unwritten blk;
        fits = f.fits;
      }
        where
          f : IsFresh kinds w.value (made_by n c)
          f = let less = no_less before line c in s.fresh n c lc hc some (omega (arith, less, later))

          differs : made_by n c ≢ ino
          differs = made_apart (number_of before (Client client)) client n c least most lc hc (by_client (eq_cases client c))
            where
              by_client : (client ≡ c) ⊎ ((client ≡ c) → ⊥) → (number_of before (Client client) < n) ⊎ ((client ≡ c) → ⊥)
              by_client (inl same) = inl (
                  let one : begun (before ++ line ∷ []) client ≡ begun before client + 1 =
                  begun_more before line client ∙ ap (λ t. begun before client + cond t 1 0) own in
                  let here : begun (before ++ line ∷ []) client < n = subst (λ k. begun (before ++ line ∷ []) k < n) (sym same) later in
                  let c = counted in
                  omega (arith, one, here, c))
              by_client (inr apart) = inr apart

          nobody : then_kinds (made_by n c) ≡ None
          nobody = kinds_else kinds ino its_call (made_by n c) differs ∙ f.nobody

-- ---- all lines

module _ (meets : (c : FileCall) → MeetsTree c) (before lines : List Line) (line : Line) (few : length before < max_lines)
    (later : (kinds : Ino → Option Kind) (w : World) → Stands kinds w (before ++ line ∷ []) → KeepTheTree kinds w (before ++ line ∷ []) lines)
    (kinds : Ino → Option Kind) (w : World) (s : Stands kinds w before) where
  abbrev Kept : Work → Type 0
  Kept wanted =
      let e = after_line w before wanted (actor_of wanted) in
      RepliesAsTree kinds w before wanted e (λ now. KeepTheTree now e.world (before ++ line ∷ []) lines)

  still : KeepTheTree kinds w (before ++ line ∷ []) lines
  still = later kinds w (stands_still kinds w before line s)

  one_line : (wanted : Work) → line.work ≡ wanted → IsFit wanted → Kept wanted
  one_line (work.File client its_call) is fit =
      let met = ends meets kinds w before line client its_call is fit.0 fit.1 few s in
      let now = (call_on w (number_of before (Client client)) (work.File client its_call)).world in (
        met.given,
        met.is,
        met.so,
        later (kinds_after kinds (made_by (number_of before (Client client)) client) its_call) now
            (stands_met meets kinds w before line client its_call is fit.0 fit.1 few s met.given now met.so),
      )
  one_line (work.Bput client block value) is fit =
      later kinds (write w block.ino block.blk value) (stands_written kinds w before line block value fit s)
  one_line (work.Bget client block) is fit = still
  one_line (work.Sync client) is fit = still
  one_line (work.Crash node) is fit = still
  one_line (work.Restart node) is fit = still
  one_line (work.Checkpoint manager) is fit = still
  one_line (work.Lose server) is fit = still
  one_line (work.Rebuild server) is fit = still
  one_line (work.Move slot manager) is fit = still
  one_line (work.Clean count) is fit = still
  one_line (work.NetLose count) is fit = still
  one_line (work.NetAgain count) is fit = still
  one_line (work.NetMix number) is fit = still
  one_line work.NetHold is fit = still
  one_line work.NetGo is fit = still
  one_line (work.NetStep count) is fit = still
  one_line (work.BoardStop board) is fit = still
  one_line (work.BoardStart board) is fit = still
  one_line (work.ServerStop server passes) is fit = still
  one_line (work.ServerStart server) is fit = still

all_lines : (meets : (c : FileCall) → MeetsTree c) (before lines : List Line) → AreFit lines → length before + length lines ≤ max_lines
    → (kinds : Ino → Option Kind) (w : World) → Stands kinds w before → KeepTheTree kinds w before lines
all_lines meets before [] fit few kinds w s = s.sound
all_lines meets before (line ∷ lines) fit few kinds w s =
    one_line meets before lines line (omega (arith, few))
    (λ now v then_. all_lines meets (before ++ line ∷ []) lines fit.1 (let long = length-append before (line ∷ []) in omega (arith, few, long)) now v then_)
    kinds w s line.work refl fit.0

first_stands : Sound root_alone nothing_written.value → Stands root_alone nothing_written []
first_stands sound = record {
  sound = sound;
  fresh = λ n c least most few later. record {
    nobody = ap (λ (b : Bool). cond b (Some kind.Directory) None) (ino_differs (made_by n c) root (λ e. let g = ap (λ (x : Ino). x.0) e in omega (arith, g, least)));
    unwritten = λ blk. refl;
    fits = omega (arith, most, few);
  };
  raw = λ ino raw. ap (λ (b : Bool). cond b (Some kind.Directory) None) (ino_differs ino root (raw_no_root ino raw));
}

pub keeps : ((c : FileCall) → MeetsTree c) → AllMeetFromNothing → EachScriptKeepsTheTree
keeps meets from_nothing lines fit few = all_lines meets [] lines fit (omega (arith, few)) root_alone nothing_written (first_stands (from_nothing [] tt))
