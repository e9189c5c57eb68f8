-- All calls together: each meets the tree, and so does a list of them from nothing.
use Rattle.std.proofs.Common.{◌≡◌, ℕ, zero, suc, ◌<◌, ◌≤◌, ◌^◌, Bool, cond, List, [], ◌∷◌, ◌++◌, Option, Some, None, refl, ap, ◌∙◌, arith}
use Rattle.std.specs.Prelude.{◌≢◌}
use Rattle.std.specs.List.{AllByRecursion}
use Rattle.version_model.specs.declared.answer.Answer.{Answer}
use Rattle.version_model.specs.declared.file_call.FileCall.{FileCall}
use Rattle.version_model.specs.declared.file_call.FileCall.TheVariants as call
use Rattle.file_plan.specs.declared.block_call.BlockAnswer.{BlockAnswer}
use Rattle.file_plan.specs.declared.block_call.Next.{Next}
use Rattle.file_plan.specs.declared.block_call.Next.TheVariants.{Step, Reply}
use Rattle.file_plan.specs.Plan.{made_by, plan}
use Rattle.file_plan.specs.Tree.{Table, Sound, IsFresh, MakesFresh, kinds_after}
use Rattle.file_plan.specs.Driving.{World, serve, Rests, GoesOn, Replies, most_steps, MeetsTree, IsShort, Item, made_of, AreItems, AllMeet, nothing_written, root_alone, AllMeetFromNothing}
use Rattle.file_plan.proofs.Filling.{put_meets}
use Rattle.file_plan.proofs.Frames.{ino_differs, no_file, ino_differs}
use Rattle.file_plan.proofs.Listing.{ls_meets}
use Rattle.file_plan.proofs.Machine.{Post}
use Rattle.file_plan.proofs.Making.{mk_meets, mkdir_meets}
use Rattle.file_plan.proofs.Measuring.{size_meets, get_meets}
use Rattle.file_plan.proofs.Moving.{mv_meets}
use Rattle.file_plan.proofs.Removing.{rm_meets}
use Rattle.xfs_base.specs.declared.block.Ino.{Ino}
use Rattle.xfs_base.specs.Limits.{max_lines}
use Rattle.file_plan.specs.declared.node.Kind.{Kind}
use Rattle.file_plan.specs.declared.node.Kind.TheVariants as kind
use Rattle.file_plan.specs.Calls.{root}

pub every_call : (c : FileCall) → MeetsTree c
every_call (call.Mk path) = mk_meets path
every_call (call.Mkdir path) = mkdir_meets path
every_call (call.Put path offset bytes) = put_meets path offset bytes
every_call (call.Get path offset len) = get_meets path offset len
every_call (call.Size path) = size_meets path
every_call (call.Ls path) = ls_meets path
every_call (call.Rm path) = rm_meets path
every_call (call.Mv from to) = mv_meets from to

pub few_steps : (c : FileCall) → IsShort c → most_steps c ≤ 275
few_steps (call.Mk path) h = omega (arith, h)
few_steps (call.Mkdir path) h = omega (arith, h)
few_steps (call.Put path offset bytes) h = omega (arith, h.0, h.1)
few_steps (call.Get path offset len) h = omega (arith, h.0, h.1)
few_steps (call.Size path) h = omega (arith, h)
few_steps (call.Ls path) h = omega (arith, h)
few_steps (call.Rm path) h = omega (arith, h)
few_steps (call.Mv from to) h = omega (arith, h.0, h.1)

-- ---- from nothing

nothing_sound : Sound root_alone nothing_written.value
nothing_sound = record {
  root_is_directory = refl;
  directories = λ dir bucket fact small. ([], record { text = refl; rising = refl; each = tt });
  files = λ file fact. (0, no_file nothing_written.value file (λ blk. refl));
}

rests : (x : Next) (w : World) (Q R : Post) → ((given : Answer) (now : World) → Q given now → R given now) → Rests x w Q → Rests x w R
rests (Reply answer) w Q R f h = f answer w h
rests (Step call) w Q R f h = h

goes : (x : Next) (w : World) (Q R : Post) (more later : BlockAnswer → World → Type 0) → ((given : Answer) (now : World) → Q given now → R given now)
    → ((a : BlockAnswer) (v : World) → more a v → later a v) → GoesOn x w Q more → GoesOn x w R later
goes (Reply answer) w Q R more later f g h = f answer w h
goes (Step call) w Q R more later f g h = g (serve w call).answer (serve w call).world h

weaker : (p : List BlockAnswer → Next) (n : ℕ) (answers : List BlockAnswer) (w : World) (Q R : Post)
    → ((given : Answer) (now : World) → Q given now → R given now) → Replies p n answers w Q → Replies p n answers w R
weaker p zero answers w Q R f h = rests (p answers) w Q R f h
weaker p (suc n) answers w Q R f h =
    goes (p answers) w Q R (λ a v. Replies p n (answers ++ a ∷ []) v Q) (λ a v. Replies p n (answers ++ a ∷ []) v R) f
    (λ a v g. weaker p n (answers ++ a ∷ []) v Q R f g) h

-- numbers of different items differ, and fit
made_fits : (number client : ℕ) → number ≤ max_lines → client ≤ 8 → (made_by number client).0 < 2 ^ 32
made_fits number client h g = omega (arith, h, g)

made_some : (number client : ℕ) → 1 ≤ client → made_by number client ≢ root
made_some number client h e = let g = ap (λ (x : Ino). x.0) e in omega (arith, h, g)

made_apart : (n c m d : ℕ) → 1 ≤ c → c ≤ 8 → 1 ≤ d → d ≤ 8 → ((m ≡ n) × (d ≡ c) → ⊥) → made_by m d ≢ made_by n c
made_apart n c m d lc hc ld hd apart e =
    let g = ap (λ (x : Ino). x.0) e in let same : d ≡ c = omega (arith, lc, hc, ld, hd, g) in apart (omega (arith, g, same), same)

-- every item's number is nobody's yet
abbrev AreFresh : (Ino → Option Kind) → Table → List Item → Type 0
AreFresh kinds t items = AllByRecursion (λ item. IsFresh kinds t (made_of item)) items

makes_fresh : (kinds : Ino → Option Kind) (t : Table) (ino : Ino) (c : FileCall) → IsFresh kinds t ino → MakesFresh kinds t ino c
makes_fresh kinds t ino (call.Mk path) h = h
makes_fresh kinds t ino (call.Mkdir path) h = h
makes_fresh kinds t ino (call.Put path offset bytes) h = tt
makes_fresh kinds t ino (call.Get path offset len) h = tt
makes_fresh kinds t ino (call.Size path) h = tt
makes_fresh kinds t ino (call.Ls path) h = tt
makes_fresh kinds t ino (call.Rm path) h = tt
makes_fresh kinds t ino (call.Mv from to) h = tt

kinds_else : (kinds : Ino → Option Kind) (ino : Ino) (c : FileCall) (i : Ino) → i ≢ ino → kinds_after kinds ino c i ≡ kinds i
kinds_else kinds ino (call.Mk path) i h = ap (λ (b : Bool). cond b (Some kind.File) (kinds i)) (ino_differs i ino h)
kinds_else kinds ino (call.Mkdir path) i h = ap (λ (b : Bool). cond b (Some kind.Directory) (kinds i)) (ino_differs i ino h)
kinds_else kinds ino (call.Put path offset bytes) i h = refl
kinds_else kinds ino (call.Get path offset len) i h = refl
kinds_else kinds ino (call.Size path) i h = refl
kinds_else kinds ino (call.Ls path) i h = refl
kinds_else kinds ino (call.Rm path) i h = refl
kinds_else kinds ino (call.Mv from to) i h = refl

still_fresh : (kinds : Ino → Option Kind) (t u : Table) (item : Item) → 1 ≤ item.client → item.client ≤ 8
    → ((i : Ino) (b : ℕ) → kinds_after kinds (made_of item) item.call i ≡ None → u i b ≡ t i b)
    → (items : List Item) → AreItems items → AllByRecursion (λ other. (other.number ≡ item.number) × (other.client ≡ item.client) → ⊥) items
    → AreFresh kinds t items → AreFresh (kinds_after kinds (made_of item) item.call) u items
still_fresh kinds t u item lc hc others [] are apart fresh = tt
still_fresh kinds t u item lc hc others (other ∷ items) are apart fresh =
    let differ = made_apart item.number item.client other.number other.client lc hc are.1 are.2 apart.0 in
    let nobody = kinds_else kinds (made_of item) item.call (made_of other) differ ∙ fresh.0.nobody in (
      record { nobody = nobody; unwritten = λ blk. others (made_of other) blk nobody ∙ fresh.0.unwritten blk; fits = fresh.0.fits },
      still_fresh kinds t u item lc hc others items are.4 apart.1 fresh.1,
    )

all_meet : (items : List Item) (kinds : Ino → Option Kind) (w : World) → AreItems items → Sound kinds w.value → AreFresh kinds w.value items
    → AllMeet kinds w items
all_meet [] kinds w are sound fresh = sound
all_meet (item ∷ items) kinds w are sound fresh =
    weaker (plan item.call item.number item.client) (most_steps item.call) [] w _ _
    (λ given now meets. (
      meets,
      all_meet items (kinds_after kinds (made_of item) item.call) now are.4 meets.sound
          (still_fresh kinds w.value now.value item are.1 are.2 meets.others items are.4 are.3 fresh.1),
    ))
    (every_call item.call kinds w item.number item.client sound (makes_fresh kinds w.value (made_of item) item.call fresh.0))

first_fresh : (items : List Item) → AreItems items → AreFresh root_alone nothing_written.value items
first_fresh [] are = tt
first_fresh (item ∷ items) are = (
  record {
    nobody = ap (λ (b : Bool). cond b (Some kind.Directory) None) (ino_differs (made_of item) root (made_some item.number item.client are.1));
    unwritten = λ blk. refl;
    fits = made_fits item.number item.client are.0 are.2;
  },
  first_fresh items are.4,
)

pub from_nothing : AllMeetFromNothing
from_nothing items are = all_meet items root_alone nothing_written are nothing_sound (first_fresh items are)
