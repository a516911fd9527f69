use Rattle.std.proofs.Common.{◌≡◌, ℕ, ◌+◌, List, [], ◌∷◌, ◌++◌, ◌∙◌, ap, arith, map, sym}
use Rattle.std.specs.List.{range_with_len}
use Rattle.std.proofs.lemmas.List.{map_push}
use Rattle.std.proofs.lemmas.List.Elements.{All-push, All-same}
use Rattle.book_turns.specs.Counts.{times}
use Rattle.book_turns.specs.Passes.{made_of, opening_of}
use Rattle.book_turns.specs.declared.pass.TurnPass.{TurnPass}
use Rattle.play_seats.specs.Passes.{IsNew}
use Rattle.play_seats.proofs.PassLemmas.{fresh, made-more, range-more}
use Rattle.play_seats.proofs.passes.passes_of.Goals as goal

pub pass-requires-clause-fresh : goal.pass-requires-clause-fresh
pass-requires-clause-fresh c = (
  λ same. omega (arith, same, c.loop-number-test.true, c.requires.few),
  fresh c.loop-number.number (made_of c.loop-number.first) c.loop-number.invariant.made,
)

pub loop-number-preserved : goal.loop-number-preserved
loop-number-preserved c =
    let i = c.loop-number.invariant in
    let e = c.in_ok-pass.ensures in
    let p = c.push_reserved.ensures in
    let number = c.loop-number.number in
    let passes = c.loop-number.passes.items in
    let one = c.in_ok-pass.field-0 in
    let New : TurnPass → Type 0 = IsNew c.args.book.now.table.shared.table_id (opening_of c.args.first.now) in
    let is_new : New one = record {
      belongs = e.belongs.1;
      opening_is = e.new.1 ∙ i.first.opening_is;
      own_is = e.new.2;
      left_is = e.new.4;
    } in
    record {
      first = record {
        belongs = e.belongs.0 ∙ i.first.belongs;
        document_is = e.same.0 ∙ i.first.document_is;
        opening_is = e.same.1 ∙ i.first.opening_is;
        own_is = e.same.2 ∙ i.first.own_is;
        left_is = e.same.4 ∙ i.first.left_is;
      };
      new = All-same New c.push_reserved.new.self.items (passes ++ one ∷ []) p.items
          (All-push New passes one i.new is_new);
      documents = ap (map (λ (q : TurnPass). q.document)) p.items ∙ map_push (λ (q : TurnPass). q.document) passes one
          ∙ ap (λ (l : List ℕ). l ++ one.document ∷ []) i.documents
          ∙ ap (λ (n : ℕ). range_with_len 0 number ++ n ∷ []) e.new.0 ∙ sym
          (range-more 0 number number (zero_before number));
      made = made-more number (made_of c.loop-number.first) (made_of c.pass.new.parent) i.made e.made;
      count = omega (arith, p.len, i.count);
      room = omega (arith, p.capacity, i.room);
    }
  where
    zero_before : (n : ℕ) → 0 + n ≡ n
    zero_before n = omega arith

pub returns : goal.returns
returns c =
    let i = c.loop-number.invariant in
    let all : c.loop-number.number ≡ c.args.count =
    omega (arith, c.loop-number-test.false, c.loop-number.auto.number-end) in
    record {
      passes = record {
        first_is = i.first;
        new = i.new;
        documents = i.documents ∙ ap (range_with_len 0) all;
        made = λ d. i.made d ∙ ap (λ (n : ℕ). times d (range_with_len 0 n)) all;
      };
    }
