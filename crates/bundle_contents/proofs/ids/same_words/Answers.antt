-- The last word is compared first, then the first and those after it.
use Rattle.std.proofs.Common.{refl, arith}
use Rattle.bundle_contents.proofs.ids.Words.{words_on, words_differ, words_last, word-ends}
use Rattle.bundle_contents.proofs.ids.same_words.Goals as goal

pub returns-then-word_at : goal.returns-then-word_at
returns-then-word_at c = words_differ _ _ 12 c.word_at.ensures.word c.word_at-2.ensures.word c.if-word_at.true

pub returns-then-word_at-2 : goal.returns-then-word_at-2
returns-then-word_at-2 c = words_differ _ _ 0 c.word_at-3.ensures.word c.word_at-4.ensures.word c.if-word_at-2.true

pub returns-then-word_at-3 : goal.returns-then-word_at-3
returns-then-word_at-3 c = words_differ _ _ 4 c.word_at-5.ensures.word c.word_at-6.ensures.word c.if-word_at-3.true

pub returns : goal.returns
returns c =
    let a = c.args.a.now in
    let b = c.args.b.now in
    let l = c.word_at.ensures in
    let m = c.word_at-2.ensures in
    let p = c.word_at-3.ensures in
    let q = c.word_at-4.ensures in
    let r = c.word_at-5.ensures in
    let s = c.word_at-6.ensures in
    let t = c.word_at-7.ensures in
    let u = c.word_at-8.ensures in
    let last = word-ends a b 12 (omega arith) (omega arith) (l.word, l.bytes) (m.word, m.bytes) c.if-word_at.false in
    let one = words_on a b 0 (omega arith) (omega arith) (p.word, p.bytes) (q.word, q.bytes) refl c.if-word_at-2.false in
    let two = words_on a b 4 (omega arith) (omega arith) (r.word, r.bytes) (s.word, s.bytes) one c.if-word_at-3.false in
    words_last a b 8 (omega arith) (omega arith) (t.word, t.bytes) (u.word, u.bytes) two last
