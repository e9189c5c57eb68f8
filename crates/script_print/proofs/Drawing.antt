-- What a number draws: each work that a turn makes is asked for by a short line.
use Rattle.std.proofs.Common.{◌≡◌, ℕ, zero, suc, ◌+◌, ◌-◌, ◌*◌, ◌%◌, ◌≤◌, ◌<◌, ◌^◌, ◌==◌, nat_lt, Bool, true, false, List, [], ◌∷◌, ◌++◌, length, codes, refl, sym, ◌∙◌, ap, subst, arith, inl, Some, Result, Ok, Err, IfOk, if◌then◌else◌, append_assoc, length-append}
use Rattle.std.specs.List.{repeat, AllByRecursion}
use Rattle.std.specs.Fmt.{decimal}
use Rattle.std.specs.Str.Parse.{AllDigits}
use Rattle.std.proofs.lemmas.Fmt.{digits_decimal, decimal_nonempty, decimal_digit}
use Rattle.std.proofs.lemmas.Str.Parse.{digit_from_value}
use Rattle.xfs_base.specs.Blocks.{IsRaw}
use Rattle.xfs_base.specs.declared.node.NodeId.TheVariants as nodes
use Rattle.xfs_base.specs.Limits.{max_lines, max_bytes}
use Rattle.version_model.specs.declared.work.Work.{Work}
use Rattle.version_model.specs.declared.work.Work.TheVariants as works
use Rattle.script_text.specs.declared.form.Form.{Form}
use Rattle.script_text.specs.declared.form.Form.TheVariants as form
use Rattle.script_text.specs.declared.form.Part.TheVariants as part
use Rattle.script_text.specs.declared.script.Line.{Line}
use Rattle.script_text.specs.declared.script.Script.{Script}
use Rattle.script_text.specs.Text.{quoted}
use Rattle.script_text.specs.Forms.{Meanings, parts, work_of}
use Rattle.script_text.specs.Spelling.{Context}
use Rattle.script_text.specs.Script.{IsScriptOf, text_size, item_at}
use Rattle.script_text.proofs.WordLemmas.{own, wide}
use Rattle.script_print.specs.declared.draws.Draws.{Draws}
use Rattle.script_print.specs.Printing.{text_body, work_line, item_text, items_text, setup_lines, ended, printed}
use Rattle.script_print.specs.Generator.{client_of, manager_of, server_of, block_of, draws_from, fall_of, turn_works, works_from, numbered, generated, generated_setup}
use Rattle.script_print.proofs.Bytes.{AreBytes, text_spelled, decimal_short, body_short}
use Rattle.script_print.proofs.LineReads.{AllFit}
use Rattle.script_print.proofs.ItemLines.{IsAsked}
use Rattle.script_print.proofs.Extracts.{IsSetup, AreAsked, Whole}
use Rattle.script_print.proofs.Printings.{whole_spelled}

-- what holds of each list of works that a turn may make holds of what it makes
turn_all : (P : List Work → Type 0) (turn : ℕ) (d : Draws) → P (works.Bput (client_of d) (block_of d) (Some (decimal turn)) ∷ [])
    → P (works.Bget (client_of d) (block_of d) ∷ []) → P (works.Sync (client_of d) ∷ []) → P (fall_of (nodes.Client (client_of d)))
    → P (fall_of (nodes.Manager (manager_of d))) → P (works.Checkpoint (manager_of d) ∷ []) → P (works.Clean 2 ∷ [])
    → P (works.Lose (server_of d) ∷ works.Rebuild (server_of d) ∷ []) → P (turn_works turn d)
turn_all P turn d put get sync client manager check clean lose =
    at_kind (nat_lt (d.kind % 16) 6) (nat_lt (d.kind % 16) 12) (d.kind % 16 == 12) (d.kind % 16 == 13) (d.kind % 16 == 14) (d.file % 3 == 0) (d.file % 3 == 1)
  where
    at_kind : (t u v w x y z : Bool)
        → P (if t then works.Bput (client_of d) (block_of d) (Some (decimal turn)) ∷ [] else if u then works.Bget (client_of d)
        (block_of d) ∷ [] else if v then works.Sync (client_of d) ∷ [] else if w then fall_of (nodes.Client (client_of d)) else if x then fall_of
        (nodes.Manager (manager_of d)) else if y then works.Checkpoint (manager_of d) ∷ [] else if z then works.Clean 2 ∷ [] else works.Lose
        (server_of d) ∷ works.Rebuild (server_of d) ∷ [])
    at_kind true u v w x y z = put
    at_kind false true v w x y z = get
    at_kind false false true w x y z = sync
    at_kind false false false true x y z = client
    at_kind false false false false true y z = manager
    at_kind false false false false false true z = check
    at_kind false false false false false false true = clean
    at_kind false false false false false false false = lose

pub turn_few : (turn : ℕ) (d : Draws) → length (turn_works turn d) ≤ 2
turn_few turn d =
    turn_all (λ ws. length ws ≤ 2) turn d (omega arith) (omega arith) (omega arith) (omega arith) (omega arith) (omega arith) (omega arith) (omega arith)

-- numbered works
numbered_join : (n : ℕ) (a b : List Work) → numbered n (a ++ b) ≡ numbered n a ++ numbered (n + length a) b
numbered_join n [] b = let e : n ≡ n + 0 = omega arith in ap (λ m. numbered m b) e
numbered_join n (w ∷ a) b =
    let e : n + 1 + length a ≡ n + length (w ∷ a) = omega arith in
    ap (λ x. item_at n 0 w ∷ x) (numbered_join (n + 1) a b ∙ ap (λ m. numbered (n + 1) a ++ numbered m b) e)

numbered_length : (n : ℕ) (ws : List Work) → length (numbered n ws) ≡ length ws
numbered_length n [] = refl
numbered_length n (w ∷ ws) = let e = numbered_length (n + 1) ws in omega (arith, e)

new_length : (lines new : List Line) (made : List Work) → new ≡ lines ++ numbered (8 + length lines) made → length new ≡ length lines + length made
new_length lines new made e =
    ap length e ∙ length-append lines (numbered (8 + length lines) made) ∙ ap (λ n. length lines + n) (numbered_length (8 + length lines) made)

-- a turn of the loop
turn_same : (lines new whole : List Line) (turns turn x : ℕ) → turn < turns
    → lines ++ numbered (8 + length lines) (works_from (turns - turn) (turn + 1) x) ≡ whole
    → new ≡ lines ++ numbered (8 + length lines) (turn_works (turn + 1) (draws_from x))
    → new ++ numbered (8 + length new) (works_from (turns - (turn + 1)) (turn + 1 + 1) (draws_from x).left) ≡ whole
turn_same lines new whole turns turn x l h e =
    let made = turn_works (turn + 1) (draws_from x) in
    let rest = works_from (turns - (turn + 1)) (turn + 1 + 1) (draws_from x).left in
    let a : turns - turn ≡ suc (turns - (turn + 1)) = omega (arith, l) in
    let b : works_from (turns - turn) (turn + 1) x ≡ made ++ rest = ap (λ n. works_from n (turn + 1) x) a in
    let c : length new ≡ length lines + length made = new_length lines new made e in
    let f : 8 + length new ≡ 8 + length lines + length made = omega (arith, c) in
    let g : numbered (8 + length lines) (works_from (turns - turn) (turn + 1) x) ≡ numbered (8 + length lines) made
    ++ numbered (8 + length lines + length made) rest = ap (λ ws. numbered (8 + length lines) ws) b ∙ numbered_join (8 + length lines) made rest in
    ap (λ n. new ++ numbered n rest) f
    ∙ ap (λ y. y ++ numbered (8 + length lines + length made) rest) e
    ∙ append_assoc lines (numbered (8 + length lines) made) (numbered (8 + length lines + length made) rest)
    ∙ ap (λ y. lines ++ y) (sym g)
    ∙ h

pub turn_kept : (lines new whole : List Line) (turns turn x : ℕ) (d : Draws) → d ≡ draws_from x → turn < turns
    → lines ++ numbered (8 + length lines) (works_from (turns - turn) (turn + 1) x) ≡ whole
    → new ≡ lines ++ numbered (8 + length lines) (turn_works (turn + 1) d)
    → new ++ numbered (8 + length new) (works_from (turns - (turn + 1)) (turn + 1 + 1) d.left) ≡ whole
turn_kept lines new whole turns turn x d k l h e =
    let f : new ≡ lines ++ numbered (8 + length lines) (turn_works (turn + 1) (draws_from x)) =
    e ∙ ap (λ (y : Draws). lines ++ numbered (8 + length lines) (turn_works (turn + 1) y)) k in
    ap (λ (y : Draws). new ++ numbered (8 + length new) (works_from (turns - (turn + 1)) (turn + 1 + 1) y.left)) k
    ∙ turn_same lines new whole turns turn x l h f

pub few_kept : (lines new : List Line) (turn : ℕ) (d : Draws) → length lines ≤ 2 * turn → new ≡ lines ++ numbered (8 + length lines) (turn_works (turn + 1) d)
    → length new ≤ 2 * (turn + 1)
few_kept lines new turn d h e =
    let c : length new ≡ length lines + length (turn_works (turn + 1) d) = new_length lines new (turn_works (turn + 1) d) e in
    let f : length (turn_works (turn + 1) d) ≤ 2 = turn_few (turn + 1) d in
    omega (arith, c, f, h)

-- a work is asked for by a short line wherever texts of ten bytes may stand
abbrev Room : ℕ → Context
Room room = record { setup = generated_setup; room = room }

record IsDrawn (w : Work) : Type 0 where
  asked : (room : ℕ) → 10 ≤ room → IsAsked (Room room) 0 w
  size : text_size w ≤ 10
  short : length (work_line w) ≤ 100

abbrev AreDrawn : List Work → Type 0
AreDrawn ws = AllByRecursion IsDrawn ws

digits_bytes : (ds : List ℕ) → AllDigits 10 ds → AreBytes ds
digits_bytes [] d = tt
digits_bytes (c ∷ cs) d = let r = digit_from_value c d.0 in (omega (arith, r), digits_bytes cs d.1)

decimal_bytes : (n : ℕ) → n < 2 ^ 32 → AreBytes (decimal n)
decimal_bytes n h = digits_bytes (decimal n) (digits_decimal own n (wide n h))

raw_ino : (a s : ℕ) → IsRaw (128 * (1 + a % 8) + s % 8)
raw_ino a s = (omega arith, omega arith)

-- the length of words with spaces between
two_long : (k : ℕ) (v : List ℕ) → k < 2 ^ 32 → length v ≤ 10 → length (decimal k ++ 32 ∷ v) ≤ 21
two_long k v h l =
    let d : length (decimal k) ≤ 10 = decimal_short k h in
    let e : length (decimal k ++ 32 ∷ v) ≡ length (decimal k) + length (32 ∷ v) = length-append (decimal k) (32 ∷ v) in
    omega (arith, d, e, l)

put_drawn : (k a s b turn : ℕ) → k < 4 → turn < 2 ^ 32
    → IsDrawn (works.Bput (k + 1) (record { ino = record { 0 = 128 * (1 + a % 8) + s % 8 }; blk = b % 16 }) (Some (decimal turn)))
put_drawn k a s b turn h t =
    let ino = 128 * (1 + a % 8) + s % 8 in
    let text = decimal turn in
    let n : length text ≤ 10 = decimal_short turn t in
    let some : 0 < length text = decimal_nonempty turn (wide turn t) in
    let node : length (decimal (k + 1)) ≤ 10 = decimal_short (k + 1) (omega (arith, h)) in
    let one : length (decimal ino) ≤ 10 = decimal_short ino (omega arith) in
    let two : length (decimal (b % 16)) ≤ 10 = decimal_short (b % 16) (omega arith) in
    let body : length (text_body text) ≤ 4 * length text = body_short text in
    let e1 : length (text_body text ++ 34 ∷ []) ≡ length (text_body text) + 1 = length-append (text_body text) (34 ∷ []) in
    let e2 : length (decimal (b % 16) ++ 32 ∷ quoted (text_body text)) ≡ length (decimal (b % 16)) + length (32 ∷ quoted (text_body text)) =
    length-append (decimal (b % 16)) (32 ∷ quoted (text_body text)) in
    let e3 : length (decimal ino ++ 32 ∷ (decimal (b % 16) ++ 32 ∷ quoted (text_body text))) ≡ length (decimal ino) + length
    (32 ∷ (decimal (b % 16) ++ 32 ∷ quoted (text_body text))) = length-append (decimal ino) (32 ∷ (decimal (b % 16) ++ 32 ∷ quoted (text_body text))) in
    let e4 : length (decimal (k + 1) ++ 32 ∷ (codes "bput" ++ 32 ∷ (decimal ino ++ 32 ∷ (decimal (b % 16) ++ 32 ∷ quoted (text_body text))))) ≡ length
    (decimal (k + 1)) + length (32 ∷ (codes "bput" ++ 32 ∷ (decimal ino ++ 32 ∷ (decimal (b % 16) ++ 32 ∷ quoted (text_body text))))) =
    length-append (decimal (k + 1)) (32 ∷ (codes "bput" ++ 32 ∷ (decimal ino ++ 32 ∷ (decimal (b % 16) ++ 32 ∷ quoted (text_body text))))) in
    record {
      asked = λ room l. record {
        form = form.Bput;
        meanings = (k + 1, (tt, (ino, (b % 16, (text, tt)))));
        fits = (
          (99 ∷ decimal (k + 1), ((omega (arith, h), refl), (omega arith, omega (arith, h))), tt),
          (
            ([], (tt, tt), tt),
            (
              (decimal ino, (((omega arith, refl), raw_ino a s), tt), tt),
              (
                (decimal (b % 16), (((omega arith, refl), omega arith, omega arith), tt), tt),
                ((quoted (text_body text), ((text_spelled text (decimal_bytes turn t), some), omega (arith, n, l)), tt), tt),
              ),
            ),
          ),
        );
        meant = refl;
        time = omega arith;
        alone = λ x. refl;
      };
      size = n;
      short = omega (arith, n, node, one, two, body, e1, e2, e3, e4);
    }

get_drawn : (k a s b : ℕ) → k < 4 → IsDrawn (works.Bget (k + 1) (record { ino = record { 0 = 128 * (1 + a % 8) + s % 8 }; blk = b % 16 }))
get_drawn k a s b h =
    let ino = 128 * (1 + a % 8) + s % 8 in
    let node : length (decimal (k + 1)) ≤ 10 = decimal_short (k + 1) (omega (arith, h)) in
    let two : length (decimal (b % 16)) ≤ 10 = decimal_short (b % 16) (omega arith) in
    let rest : length (decimal ino ++ 32 ∷ decimal (b % 16)) ≤ 21 = two_long ino (decimal (b % 16)) (omega arith) two in
    let e : length (decimal (k + 1) ++ 32 ∷ (codes "bget" ++ 32 ∷ (decimal ino ++ 32 ∷ decimal (b % 16)))) ≡ length (decimal (k + 1)) + length
    (32 ∷ (codes "bget" ++ 32 ∷ (decimal ino ++ 32 ∷ decimal (b % 16)))) =
    length-append (decimal (k + 1)) (32 ∷ (codes "bget" ++ 32 ∷ (decimal ino ++ 32 ∷ decimal (b % 16)))) in
    record {
      asked = λ room l. record {
        form = form.Bget;
        meanings = (k + 1, (tt, (ino, (b % 16, tt))));
        fits = (
          (99 ∷ decimal (k + 1), ((omega (arith, h), refl), (omega arith, omega (arith, h))), tt),
          (
            ([], (tt, tt), tt),
            (
              (decimal ino, (((omega arith, refl), omega arith, omega arith), tt), tt),
              ((decimal (b % 16), (((omega arith, refl), omega arith, omega arith), tt), tt), tt),
            ),
          ),
        );
        meant = refl;
        time = omega arith;
        alone = λ x. refl;
      };
      size = omega arith;
      short = omega (arith, node, rest, e);
    }

-- a node and what is asked of it
order_long : (letter k : ℕ) (verb : List ℕ) → k < 2 ^ 32 → length verb ≤ 10 → length (letter ∷ (decimal k ++ 32 ∷ verb)) ≤ 100
order_long letter k verb h l =
    let e : length (decimal k ++ 32 ∷ verb) ≤ 21 = two_long k verb h l in
    omega (arith, e)

-- a node is one of its kind, and nothing else is asked of it than the verb says
client_fits : (k : ℕ) → k < 4 → (room : ℕ) → AllFit (Room room) (part.Client ∷ part.Verb ∷ []) (k + 1, (tt, tt))
client_fits k h room = ((99 ∷ decimal (k + 1), ((omega (arith, h), refl), (omega arith, omega (arith, h))), tt), (([], (tt, tt), tt), tt))

manager_fits : (k : ℕ) → k < 2 → (room : ℕ) → AllFit (Room room) (part.Manager ∷ part.Verb ∷ []) (k + 1, (tt, tt))
manager_fits k h room = ((109 ∷ decimal (k + 1), ((omega (arith, h), refl), (omega arith, omega (arith, h))), tt), (([], (tt, tt), tt), tt))

server_fits : (k : ℕ) → k < 6 → (room : ℕ) → AllFit (Room room) (part.Server ∷ part.Verb ∷ []) (k + 1, (tt, tt))
server_fits k h room = ((115 ∷ decimal (k + 1), ((omega (arith, h), refl), (omega arith, omega (arith, h))), tt), (([], (tt, tt), tt), tt))

-- a work without a text, asked for by a form whose parts fit wherever it stands
order_drawn : (w : Work) (f : Form) (v : Meanings (parts f)) → w ≡ work_of f v → ((room : ℕ) → AllFit (Room room) (parts f) v) → text_size w ≤ 10
    → length (work_line w) ≤ 100 → IsDrawn w
order_drawn w f v meant fits size short = record {
  asked = λ room l. record { form = f; meanings = v; fits = fits room; meant = meant; time = omega arith; alone = λ x. refl };
  size = size;
  short = short;
}

sync_drawn : (k : ℕ) → k < 4 → IsDrawn (works.Sync (k + 1))
sync_drawn k h =
    order_drawn (works.Sync (k + 1)) form.Sync (k + 1, (tt, tt)) refl (client_fits k h) (omega arith)
    (order_long 99 (k + 1) (codes "sync") (omega (arith, h)) (omega arith))

client_fall : (k : ℕ) → k < 4 → AreDrawn (fall_of (nodes.Client (k + 1)))
client_fall k h =
    let crash = order_long 99 (k + 1) (codes "crash") (omega (arith, h)) (omega arith) in
    let restart = order_long 99 (k + 1) (codes "restart") (omega (arith, h)) (omega arith) in (
      order_drawn (works.Crash (nodes.Client (k + 1))) form.ClientCrash (k + 1, (tt, tt)) refl (client_fits k h) (omega arith) crash,
      (order_drawn (works.Restart (nodes.Client (k + 1))) form.ClientRestart (k + 1, (tt, tt)) refl (client_fits k h) (omega arith) restart, tt),
    )

manager_fall : (k : ℕ) → k < 2 → AreDrawn (fall_of (nodes.Manager (k + 1)))
manager_fall k h =
    let crash = order_long 109 (k + 1) (codes "crash") (omega (arith, h)) (omega arith) in
    let restart = order_long 109 (k + 1) (codes "restart") (omega (arith, h)) (omega arith) in (
      order_drawn (works.Crash (nodes.Manager (k + 1))) form.ManagerCrash (k + 1, (tt, tt)) refl (manager_fits k h) (omega arith) crash,
      (order_drawn (works.Restart (nodes.Manager (k + 1))) form.ManagerRestart (k + 1, (tt, tt)) refl (manager_fits k h) (omega arith) restart, tt),
    )

check_drawn : (k : ℕ) → k < 2 → IsDrawn (works.Checkpoint (k + 1))
check_drawn k h =
    order_drawn (works.Checkpoint (k + 1)) form.Checkpoint (k + 1, (tt, tt)) refl (manager_fits k h) (omega arith)
    (order_long 109 (k + 1) (codes "checkpoint") (omega (arith, h)) (omega arith))

clean_drawn : IsDrawn (works.Clean 2)
clean_drawn =
    let d : length (decimal 2) ≤ 10 = decimal_short 2 (omega arith) in
    record {
      asked = λ room l. record {
        form = form.Clean;
        meanings = (tt, (tt, (2, tt)));
        fits = (([], (tt, tt), tt), (([], (tt, tt), tt), ((decimal 2, (((omega arith, refl), omega arith, omega arith), tt), tt), tt)));
        meant = refl;
        time = omega arith;
        alone = λ x. refl;
      };
      size = omega arith;
      short = omega (arith, d);
    }

lose_drawn : (k : ℕ) → k < 6 → AreDrawn (works.Lose (k + 1) ∷ works.Rebuild (k + 1) ∷ [])
lose_drawn k h =
    let lose = order_long 115 (k + 1) (codes "lose") (omega (arith, h)) (omega arith) in
    let rebuild = order_long 115 (k + 1) (codes "rebuild") (omega (arith, h)) (omega arith) in (
      order_drawn (works.Lose (k + 1)) form.Lose (k + 1, (tt, tt)) refl (server_fits k h) (omega arith) lose,
      (order_drawn (works.Rebuild (k + 1)) form.Rebuild (k + 1, (tt, tt)) refl (server_fits k h) (omega arith) rebuild, tt),
    )

turn_drawn : (turn : ℕ) (d : Draws) → turn < 2 ^ 32 → AreDrawn (turn_works turn d)
turn_drawn turn d t =
    let c : d.node % 4 < 4 = omega arith in
    let m : d.node % 2 < 2 = omega arith in
    let s : d.block % 6 < 6 = omega arith in
    turn_all AreDrawn turn d (put_drawn (d.node % 4) d.file d.slot d.block turn c t, tt) (get_drawn (d.node % 4) d.file d.slot d.block c, tt)
    (sync_drawn (d.node % 4) c, tt) (client_fall (d.node % 4) c) (manager_fall (d.node % 2) m) (check_drawn (d.node % 2) m, tt) (clean_drawn, tt)
    (lose_drawn (d.block % 6) s)

drawn_join : (xs ys : List Work) → AreDrawn xs → AreDrawn ys → AreDrawn (xs ++ ys)
drawn_join [] ys a b = b
drawn_join (x ∷ xs) ys a b = (a.0, drawn_join xs ys a.1 b)

works_drawn : (n turn x : ℕ) → turn + n ≤ 4000000 → AreDrawn (works_from n turn x)
works_drawn zero turn x h = tt
works_drawn (suc n) turn x h =
    drawn_join (turn_works turn (draws_from x)) (works_from n (turn + 1) (draws_from x).left) (turn_drawn turn (draws_from x) (omega (arith, h)))
    (works_drawn n (turn + 1) (draws_from x).left (omega (arith, h)))

works_few : (n turn x : ℕ) → length (works_from n turn x) ≤ 2 * n
works_few zero turn x = omega arith
works_few (suc n) turn x =
    let a : length (turn_works turn (draws_from x)) ≤ 2 = turn_few turn (draws_from x) in
    let b : length (works_from n (turn + 1) (draws_from x).left) ≤ 2 * n = works_few n (turn + 1) (draws_from x).left in
    let e : length (turn_works turn (draws_from x) ++ works_from n (turn + 1) (draws_from x).left) ≡ length (turn_works turn (draws_from x)) + length
    (works_from n (turn + 1) (draws_from x).left) = length-append (turn_works turn (draws_from x)) (works_from n (turn + 1) (draws_from x).left) in
    omega (arith, a, b, e)

-- numbered works are asked for, and their text is short
numbered_asked : (ws : List Work) (before room : ℕ) → AreDrawn ws → 10 + 10 * length ws ≤ room → before + length ws ≤ max_lines
    → AreAsked generated_setup before room (numbered (before + 1) ws)
numbered_asked [] before room a h k = tt
numbered_asked (w ∷ ws) before room a h k =
    let s : text_size w ≤ 10 = a.0.size in (
      omega arith,
      omega (arith, k),
      a.0.asked room (omega (arith, h)),
      numbered_asked ws (before + 1) (room - text_size w) a.1 (omega (arith, h, s)) (omega (arith, k)),
    )

no_gap : (before : ℕ) → before + 1 - before - 1 ≡ 0
no_gap before = omega arith

text_short : (ws : List Work) (before : ℕ) → AreDrawn ws → length (items_text before (numbered (before + 1) ws)) ≤ 101 * length ws
text_short [] before a = omega arith
text_short (w ∷ ws) before a =
    let l : Line = item_at (before + 1) 0 w in
    let rest = items_text (before + 1) (numbered (before + 1 + 1) ws) in
    let r : length rest ≤ 101 * length ws = text_short ws (before + 1) a.1 in
    let e : item_text before l ≡ work_line w ++ 10 ∷ [] = ap (λ k. repeat k (10 ∷ []) ++ (work_line w ++ 10 ∷ [])) (no_gap before) in
    let f : length (item_text before l) ≡ length (work_line w) + 1 = ap length e ∙ length-append (work_line w) (10 ∷ []) in
    let g : length (item_text before l ++ rest) ≡ length (item_text before l) + length rest = length-append (item_text before l) rest in
    let s : length (work_line w) ≤ 100 = a.0.short in
    omega (arith, r, f, g, s)

setup_is : IsSetup generated_setup
setup_is = record {
  clients = (omega arith, omega arith);
  managers = (omega arith, omega arith);
  servers = (omega arith, omega arith);
  groups = (
    (
      record {
        enough = omega arith;
        few = omega arith;
        known = ((omega arith, omega arith, omega arith), ((omega arith, omega arith, omega arith), ((omega arith, omega arith, omega arith), tt)));
        differ = (((λ e. omega (arith, e)), ((λ e. omega (arith, e)), tt)), (((λ e. omega (arith, e)), tt), (tt, tt)));
      },
      inl refl,
    ),
    (
      (
        record {
          enough = omega arith;
          few = omega arith;
          known = ((omega arith, omega arith, omega arith), ((omega arith, omega arith, omega arith), ((omega arith, omega arith, omega arith), tt)));
          differ = (((λ e. omega (arith, e)), ((λ e. omega (arith, e)), tt)), (((λ e. omega (arith, e)), tt), (tt, tt)));
        },
        inl refl,
      ),
      tt,
    ),
  );
  some = omega arith;
  few = omega arith;
  cache = (omega arith, omega arith);
}

drawn_whole : (number n : ℕ) → n ≤ 2000 → Whole (generated number n)
drawn_whole number n h =
    let ws = works_from n 1 (number % 2147483648) in
    let f : length ws ≤ 2 * n = works_few n 1 (number % 2147483648) in
    record {
      setup = setup_is;
      asked = numbered_asked ws 7 67108864 (works_drawn n 1 (number % 2147483648) (omega (arith, h))) (omega (arith, f, h)) (omega (arith, f, h));
    }

head_length : length (ended (setup_lines generated_setup)) ≡ 69
head_length =
    rw (
      decimal_digit 1 (omega arith),
      decimal_digit 2 (omega arith),
      decimal_digit 3 (omega arith),
      decimal_digit 4 (omega arith),
      decimal_digit 5 (omega arith),
      decimal_digit 6 (omega arith),
      decimal_digit 8 (omega arith),
    ) refl

drawn_short : (number n : ℕ) → n ≤ 2000 → length (printed (generated number n)) ≤ max_bytes
drawn_short number n h =
    let ws = works_from n 1 (number % 2147483648) in
    let f : length ws ≤ 2 * n = works_few n 1 (number % 2147483648) in
    let head = ended (setup_lines generated_setup) in
    let a : length head ≡ 69 = head_length in
    let t : length (items_text 7 (numbered 8 ws)) ≤ 101 * length ws = text_short ws 7 (works_drawn n 1 (number % 2147483648) (omega (arith, h))) in
    let e : length (head ++ items_text 7 (numbered 8 ws)) ≡ length head + length (items_text 7 (numbered 8 ws)) =
    length-append head (items_text 7 (numbered 8 ws)) in
    omega (arith, a, t, e, f, h)

pub drawn_again : {E : Type 0} (number n : ℕ) → n ≤ 2000 → (r : Result Script E) → IfOk r (λ s. s ≡ generated number n)
    → IfOk r (λ s. IsScriptOf false (printed s) s)
drawn_again number n h (Ok s) e =
    let P : Script → Type 0 = λ x. IsScriptOf false (printed x) x in
    subst P (sym e) (whole_spelled (generated number n) (drawn_whole number n h) (drawn_short number n h))
drawn_again number n h (Err x) e = tt
