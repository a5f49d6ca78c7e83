use Rattle.std.proofs.Common.{length, arith}
use Rattle.reading.specs.Counted.{text_end}
use Rattle.reading.proofs.ReadLaws.{rules_read, by_lines, book_read, all_read}
use Rattle.reading.proofs.read.Goals as goal

pub returns-clause-reply : goal.returns-clause-reply
returns-clause-reply c =
    let M = c.args.marks.now in
    let E = c.args.ends.now in
    let size = c.in_ok-head.head.size in
    let rs = rules_read _ c.in_ok-check_rules.ensures in
    let l = by_lines M E c.args.text.now c.if-text-gt-MOST_TEXT_BYTES.false in
    let h = c.in_ok-head.ensures (length M) (length E) in
    let read = rs.1 in
    let m = all_read (record { n = size.n; marks = length M; ends = length E }) (text_end c.in_ok-head.head.rules) size.m rs.0 c.in_ok-head.head.rules read in
    grind arith

pub returns-clause-has_book : goal.returns-clause-has_book
returns-clause-has_book c =
    let M = c.args.marks.now in
    let E = c.args.ends.now in
    let T = c.args.text.now in
    let size = c.in_ok-head.head.size in
    let rs = rules_read _ c.in_ok-check_rules.ensures in
    let l = by_lines M E T c.if-text-gt-MOST_TEXT_BYTES.false in
    let h = c.in_ok-head.ensures (length M) (length E) in
    let read = rs.1 in
    let m = all_read (record { n = size.n; marks = length M; ends = length E }) (text_end c.in_ok-head.head.rules) size.m rs.0 c.in_ok-head.head.rules read in
    book_read M E T size rs.0 _ _ (grind arith) m (c.fill.ensures.marks rs.0 read) (c.fill.ensures.ends rs.0 read)
