-- `text::file_text::sheet_text` meets its contract: the page is copied to the front, and the rest of the buffer is as it was.
use Rattle.std.proofs.Common.{◌≡◌, ℕ, List, ◌++◌, ap, ◌∙◌, length, drop}
use Rattle.text.specs.FileText.{text_of_file}
use Rattle.text.proofs.file_text.sheet_text.Goals as goal
use Rattle.text.proofs.file_text.sheet_text.Goals.{After-push_file}

-- the page was empty
written : (c : After-push_file) → c.push_file.new.page.bytes ≡ text_of_file c.args.file.now
written c = c.push_file.ensures ∙ ap (λ (l : List ℕ). l ++ text_of_file c.args.file.now) c.new-page.ensures

pub returns : goal.returns
returns c =
    let t = (goal.at.returns c).After-push_file in
    record {
      counted = c.len-length.ensures.value ∙ ap length (written t);
      later = ap (λ (l : List ℕ). l ++ drop c.len-length.result c.args.buffer.now) (c.copy_from_slice.ensures.after ∙ c.as_bytes.ensures.value ∙ c.deref.ensures.0 ∙ written t);
    }
