-- The checked cases, computed from the definitions.
use mathlib.Core.Path.{refl}
use borrow.Author.Tests.{le-leb}
use lib.ListN.{length}
use Rattle.slices.specs.Same.{same_list}
use Rattle.refusal.specs.Checks.{unless, ◌and_then◌, within}
use Rattle.prf_plus.specs.PrfPlus.{input_after, block, block_input}
use Rattle.requests.specs.Rfc5295.{usage_text}
use Rattle.requests.specs.Requests.{text_of, input_of}
use Rattle.offer_rules.specs.Rfc5448.{stands, repeats, first_supported, is_first, choose_check, answer_check, renewed_check}
use Rattle.offer_rules.specs.Answers.{first_round, server_answer, server_buffer, renewed_answer}
use Rattle.keywrap.specs.Calls.{wrappable}
use Rattle.key_frame.specs.KeyFrame.{header}
use Rattle.key_writer.specs.KeyWriter.{attribute, write_check, write_answer, write_buffer}
use Rattle.checked_cases.specs.CheckedCases.{CheckedCases}

pub checked_cases : CheckedCases
unfolding text_of input_of usage_text block_input block input_after first_round server_answer server_buffer renewed_answer choose_check answer_check renewed_check stands repeats first_supported is_first same_list write_answer write_buffer write_check attribute header wrappable unless within
checked_cases =
    record {
      p1 = λ room. refl;
      p2 = λ room. refl;
      p3 = λ room. refl;
      p4 = λ room. refl;
      p5 = λ emsk room. refl;
      p6 = refl;
      p7 = refl;
      p8 = (λ supported. refl, λ reply buffer. refl, λ choice renewed. refl);
      p9 = refl;
      p10 = λ a b c d. (refl, refl);
      p11 = λ buffer. refl;
      p12 = λ buffer. refl;
      p13 = refl;
      p14 = λ f kek key buffer e. (λ n h. rw (e, n, le-leb 252 (length buffer) h) (refl, refl), λ n. rw (e, n));
    }
