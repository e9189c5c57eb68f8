-- Joining gives the text back, whatever is missing, where no more is missing than the parity makes good.
use Rattle.std.proofs.Common.{◌≡◌, ℕ, ◌-◌, ◌≤◌, List, Option, length, take, ◌∙◌, ap, arith}
use Rattle.std.specs.List.{concat}
use Rattle.fragment_sums.specs.Recovered.{AreOf, missing_from}
use Rattle.fragment_sums.proofs.Given.{gives_back as pieces_back}
use Rattle.stripe_code.specs.Stripe.{IsCut, IsBytes, part_len, cut_pieces, stripe_of}
use Rattle.stripe_code.specs.Joined.{joined}
use Rattle.stripe_code.proofs.Pieces.{length-cut_pieces, pieces_long, pieces_bytes, text_of_pieces}

module _ (ps : List (Option (List ℕ))) (text : List ℕ) (bytes : IsBytes text) where
  pub gives_back : (parity : ℕ) → IsCut (length ps) parity → AreOf ps (stripe_of text (length ps) parity) → length (missing_from 0 ps) ≤ parity
      → joined ps parity (length text) ≡ text
  unfolding joined stripe_of
  gives_back parity cut are few =
      let count = length ps - parity in
      let part = part_len (length text) count in
      ap (λ (fs : List (List ℕ)). take (length text) (concat fs))
      (pieces_back part count ps (omega (arith, cut.limit)) parity (cut_pieces count part text) cut.some cut.few (length-cut_pieces count part text)
      (pieces_long count part text) (pieces_bytes count part text bytes) are few)
      ∙ text_of_pieces count text (omega (arith, cut.least))
