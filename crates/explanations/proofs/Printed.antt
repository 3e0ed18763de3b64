-- What is said of an image and of a configuration, in its parts.
use Rattle.std.specs.Prelude.{◌≡◌, ℕ, ◌≤◌, List, [], ◌∷◌, ◌++◌, Option, Some, codes}
use Rattle.std.proofs.Common.{refl, sym, subst, ap, ◌∙◌, arith}
use Rattle.std.specs.Io.KnownBytes.{Appends}
use Rattle.text_fields.specs.{Printing.Prints}
use Rattle.text_fields.proofs.Appending.{appends_more}
use Rattle.elf_image.specs.{Image.ProgramImage, Layout.loadable}
use Rattle.elf_image.specs.declared.program_header.ProgramHeader.{ProgramHeader}
use Rattle.elf_image.specs.declared.refusal.LoadRefused.{LoadRefused}
use Rattle.elf_image.specs.declared.refusal.LoadRefused.TheVariants as check
use Rattle.elf_image.specs.Refusal.{reason_number}
use Rattle.sim_inputs.specs.declared.explained.fault.ConfigFault.{ConfigFault}
use Rattle.explanations.specs.ConfigRefusal.{IsTold, IsFaultHint, IsFaultText, config_fault_text}
use Rattle.explanations.specs.ImageRefusal.{IsEnough, IsEnoughFor, IsImageRefusedText}
use Rattle.explanations.specs.ImageRefusal.{found_text, fault_text, refused_line}
use Rattle.explanations.specs.ImageRefusal.{check_words, mended}
use Rattle.explanations.specs.ImageText.{IsFree, image_text, AreNamesText, IsImageTextBehind, IsImageText}

-- the image, and behind it the names of its file
pub image_behind : (file : List ℕ) (headers : List ProgramHeader) (image : ProgramImage) (free entry : ℕ)
    (old mid new : Option (List ℕ)) → entry ≡ image.entry → Appends old mid (image_text headers image free)
    → Prints mid new (AreNamesText file entry) → Prints old new (IsImageTextBehind file headers image free)
image_behind file headers image free entry old mid new same first (names, are, second) = (
  image_text headers image free ++ names,
  record { names = names; are_names = subst (λ (e : ℕ). AreNamesText file e names) same are; whole = refl },
  appends_more old mid new (image_text headers image free) names first second,
)

-- both behind the first line
pub told_image : (file : List ℕ) (headers : List ProgramHeader) (image : ProgramImage) (free : ℕ)
    (items text : List ℕ) → headers ≡ loadable file → IsFree image free
    → Prints (Some []) (Some items) (IsImageTextBehind file headers image free)
    → text ≡ codes "image accepted\n" ++ items → IsImageText file image text
told_image file headers image free items text same is_free (behind, is, written) whole = record {
  free = free;
  is_free = is_free;
  behind = items;
  is_behind = subst (λ (hs : List ProgramHeader). IsImageTextBehind file hs image free items) same
      (subst (λ (t : List ℕ). IsImageTextBehind file headers image free t) (sym written) is);
  whole = whole;
}

-- what is said of a file that fails a check; its headers matter where the check looks at them
same_fault : (file : List ℕ) (headers loaded : List ProgramHeader) (ram : ℕ) (enough : Option ℕ) (one : LoadRefused)
    → (10 ≤ reason_number one → headers ≡ loaded)
    → found_text file headers ram enough one ≡ found_text file loaded ram enough one
same_fault file headers loaded ram enough check.TooShort same = refl
same_fault file headers loaded ram enough check.NotElf same = refl
same_fault file headers loaded ram enough check.NotClass32 same = refl
same_fault file headers loaded ram enough check.NotLittleEndian same = refl
same_fault file headers loaded ram enough check.WrongVersion same = refl
same_fault file headers loaded ram enough check.NotExecutable same = refl
same_fault file headers loaded ram enough check.NotRiscV same = refl
same_fault file headers loaded ram enough check.WrongHeaderSize same = refl
same_fault file headers loaded ram enough check.TableOutsideFile same = refl
same_fault file headers loaded ram enough check.WrongSegmentCount same =
    ap (λ hs. found_text file hs ram enough check.WrongSegmentCount) (same (omega arith))
same_fault file headers loaded ram enough check.SegmentOutsideFile same =
    ap (λ hs. found_text file hs ram enough check.SegmentOutsideFile) (same (omega arith))
same_fault file headers loaded ram enough check.WrongMemorySize same =
    ap (λ hs. found_text file hs ram enough check.WrongMemorySize) (same (omega arith))
same_fault file headers loaded ram enough check.SegmentOutsideRam same =
    ap (λ hs. found_text file hs ram enough check.SegmentOutsideRam) (same (omega arith))
same_fault file headers loaded ram enough check.SegmentsOverlap same =
    ap (λ hs. found_text file hs ram enough check.SegmentsOverlap) (same (omega arith))
same_fault file headers loaded ram enough check.WrongCodeSegment same =
    ap (λ hs. found_text file hs ram enough check.WrongCodeSegment) (same (omega arith))
same_fault file headers loaded ram enough check.MisalignedCode same =
    ap (λ hs. found_text file hs ram enough check.MisalignedCode) (same (omega arith))
same_fault file headers loaded ram enough check.WrongEntry same =
    ap (λ hs. found_text file hs ram enough check.WrongEntry) (same (omega arith))
same_fault file headers loaded ram enough check.OutOfMemory same = refl

enough_for : (headers loaded : List ProgramHeader) (enough : Option ℕ) (one : LoadRefused)
    → (10 ≤ reason_number one → headers ≡ loaded) → IsEnough headers enough → IsEnoughFor one loaded enough
enough_for headers loaded enough check.SegmentOutsideRam same is =
    subst (λ (hs : List ProgramHeader). IsEnough hs enough) (same (omega arith)) is
enough_for headers loaded enough one same is = tt

pub told_refusal : (file : List ℕ) (headers : List ProgramHeader) (ram : ℕ) (enough : Option ℕ) (one : LoadRefused)
    (line items text : List ℕ) → (10 ≤ reason_number one → headers ≡ loadable file) → IsEnough headers enough
    → Appends (Some []) (Some items) (fault_text file headers ram enough one)
    → line ≡ refused_line (reason_number one) → text ≡ line ++ items → IsImageRefusedText file ram one text
told_refusal file headers ram enough one line items text same is written first whole = record {
  enough = enough;
  is_enough = enough_for headers (loadable file) enough one same is;
  whole = whole ∙ ap (λ t. t ++ items) first ∙ ap (λ t. refused_line (reason_number one) ++ t) (written
      ∙ ap (λ t. check_words one ++ 10 ∷ (t ++ mended one))
      (same_fault file headers (loadable file) ram enough one same));
}

-- what is said of a configuration
pub told_fault : (config : List ℕ) (fault : ConfigFault) (meant : Option ℕ) (items text : List ℕ) → IsTold fault
    → IsFaultHint fault meant → Appends (Some []) (Some items) (config_fault_text config fault meant)
    → text ≡ codes "config refused\n" ++ items → IsFaultText config fault text
told_fault config fault meant items text told hint written whole = record {
  told = told;
  meant = meant;
  is_hint = hint;
  whole = whole ∙ ap (λ t. codes "config refused\n" ++ t) written;
}
